use Rattle.std.proofs.Common.{◌≡◌, map, take}
use Rattle.schema_model.specs.NewTable as spec
use Rattle.schema_draft.proofs.table.new_columns.Given as goal

abbrev pub invariant-loop-column : goal.invariant-loop-column
invariant-loop-column l = l.columns ≡ map (λ column. spec.new_column l.schema l.draft column.now) (take l.column-index l.column-items)
