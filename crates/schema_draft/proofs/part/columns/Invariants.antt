use Rattle.std.proofs.Common.{◌≡◌, map, take}
use Rattle.std.specs.List.{filter_map}
use Rattle.schema_model.specs.Columns.{column_of}
use Rattle.schema_draft.proofs.part.columns.Given as goal

abbrev pub invariant-loop-part : goal.invariant-loop-part
invariant-loop-part l = map (λ column. column.now) l.columns.items ≡ filter_map column_of (take l.part-index l.parts)
