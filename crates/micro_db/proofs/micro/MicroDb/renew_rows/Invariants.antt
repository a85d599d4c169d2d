use Rattle.std.proofs.Common.{take}
use Rattle.micro_db.specs.Renewed.{AreRight, ForSomeOf, IsReachedAt, Renews}
use Rattle.micro_db.proofs.micro.MicroDb.renew_rows.Given as goal

-- of the rows so far
abbrev pub invariant-loop-name : goal.invariant-loop-name
invariant-loop-name g l = AreRight (g.N.StoreView.db l.after) l.moves l.fn.self → Renews (g.N.StoreView.db l.after) (ForSomeOf (IsReachedAt (g.N.StoreView.db l.after)) (take l.name-index l.names)) l.fn.self l.self
