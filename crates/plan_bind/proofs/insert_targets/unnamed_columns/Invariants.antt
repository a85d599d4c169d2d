use Rattle.std.proofs.Common.{◌≡◌, map, take}
use Rattle.std.specs.List.{filter}
use Rattle.plan_bind.specs.ColumnList.{is_unnamed}
use Rattle.plan_bind.specs.NumberedColumns.{column_of}
use Rattle.plan_bind.proofs.insert_targets.unnamed_columns.Given as goal

-- those of the columns so far
abbrev pub invariant-loop-column : goal.invariant-loop-column
invariant-loop-column l = map column_of l.left ≡ filter (is_unnamed l.names) (map column_of (take l.column-index l.numbered))
