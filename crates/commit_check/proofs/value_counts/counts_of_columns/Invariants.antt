use Rattle.std.proofs.Common.{◌≡◌, length}
use Rattle.own_model.specs.Stored.{rows_at}
use Rattle.commit_check.specs.ValueCounts.{CountsColumns}
use Rattle.commit_check.proofs.value_counts.counts_of_columns.Given as goal

-- the columns so far are counted
abbrev pub invariant-loop-at : goal.invariant-loop-at
invariant-loop-at g l =
    CountsColumns l.definition.columns (rows_at (g.V.StoreView.db l.view).rows l.table.0) l.counts.items × (length l.counts.items ≡ l.at)
