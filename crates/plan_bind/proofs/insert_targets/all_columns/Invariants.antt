use Rattle.std.proofs.Common.{◌≡◌, Some, map, take}
use Rattle.plan_bind.specs.ColumnList.{columns_meant}
use Rattle.plan_bind.specs.NumberedColumns.{column_of}
use Rattle.plan_bind.proofs.insert_targets.all_columns.Given as goal

-- the columns so far
abbrev pub invariant-loop-column : goal.invariant-loop-column
invariant-loop-column l = columns_meant l.columns ≡ map (λ column. Some column) (map column_of (take l.column-index l.numbered))
