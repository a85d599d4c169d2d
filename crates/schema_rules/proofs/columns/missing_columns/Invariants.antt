use Rattle.std.proofs.Common.{◌≡◌, [], not, take, filter}
use Rattle.std.specs.List.{flat_map}
use Rattle.std.specs.Option.{option_to_list}
use Rattle.schema_model.specs.Columns.{column_names, is_named}
use Rattle.schema_model.specs.rules.MissingColumns.{stands_on}
use Rattle.schema_rules.proofs.columns.missing_columns.Given as goal

abbrev pub invariant-loop-part : goal.invariant-loop-part
invariant-loop-part l = flat_map (λ part. filter (λ name. not (is_named (column_names l.draft) name)) (option_to_list (stands_on part))) (take l.part-index l.part-items) ≡ []
