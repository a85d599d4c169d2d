use Rattle.owner_index.specs.Settled.{SettlesTables}
use Rattle.owner_index.proofs.pass.settle_all.Given as goal

-- the tables so far are settled
abbrev pub invariant-loop-table : goal.invariant-loop-table
invariant-loop-table g l = SettlesTables (g.V.StoreView.db l.view) l.table-items l.table-index l.fn.index l.index l.fn.work l.work
