use Rattle.std.proofs.Common.{take}
use Rattle.own_model.specs.Stored.{rows_at}
use Rattle.commit_check.specs.ValueCounts.{CountsRows}
use Rattle.commit_check.proofs.value_counts.counts_of_column.Given as goal

-- the rows so far are counted
abbrev pub invariant-loop-at : goal.invariant-loop-at
invariant-loop-at g l = CountsRows l.column.0 (take l.at (rows_at (g.V.StoreView.db l.view).rows l.table.0)) l.counts.entries
