use Rattle.std.proofs.Common.{◌≡◌, ◌++◌, drop, map}
use Rattle.std.specs.List.{enumerate_from}
use Rattle.query_model.specs.WriteFaults.{numbered_columns}
use Rattle.plan_bind.specs.NumberedColumns.{column_of}
use Rattle.plan_bind.proofs.insert_targets.numbered_columns.Given as goal

-- the columns from here on are left
abbrev pub invariant-loop-number : goal.invariant-loop-number
invariant-loop-number l = map column_of l.numbered ++ enumerate_from l.number (drop l.number l.table.columns) ≡ numbered_columns l.table
