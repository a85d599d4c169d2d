use Rattle.std.proofs.Common.{subst, sym}
use Rattle.own_model.specs.Db.{Db}
use Rattle.txn_space.specs.Merged.{AreMerged}
use Rattle.txn_space.proofs.space.Space.merged.Goals as goal

pub new-requires : goal.new-requires
new-requires g c = subst (λ (db : Db). AreMerged db.rows c.loop-item.tables.items) (sym c.over.ensures) c.loop-item.invariant
