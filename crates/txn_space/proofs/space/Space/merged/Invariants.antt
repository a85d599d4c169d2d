use Rattle.txn_space.specs.Changed.{changed_db}
use Rattle.txn_space.specs.Merged.{AreMerged}
use Rattle.txn_space.proofs.space.Space.merged.Given as goal

-- the tables so far are merged
abbrev pub invariant-loop-item : goal.invariant-loop-item
invariant-loop-item g l = AreMerged (changed_db (g.V.StoreView.db l.base) l.self).rows l.tables.items
