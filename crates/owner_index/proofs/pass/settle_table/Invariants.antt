use Rattle.owner_index.specs.Settled.{SettlesSome}
use Rattle.owner_index.proofs.pass.settle_table.Given as goal

-- the names so far are settled
abbrev pub invariant-loop-name : goal.invariant-loop-name
invariant-loop-name g l = SettlesSome (g.V.StoreView.db l.view) l.fn.table l.name-items l.name-index l.fn.index l.index l.fn.work l.work
