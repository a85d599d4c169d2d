use Rattle.std.proofs.Common.{take}
use Rattle.micro_db.specs.Renewed.{AreRight, ForSomeOf, IsOf, Renews}
use Rattle.micro_db.proofs.micro.MicroDb.renew_row.Given as goal

-- for the subjects so far
abbrev pub invariant-loop-subject : goal.invariant-loop-subject
invariant-loop-subject g l = AreRight (g.N.StoreView.db l.after) l.moves l.fn.self → Renews (g.N.StoreView.db l.after) (ForSomeOf (λ subject. IsOf subject l.name) (take l.subject-index l.subject-items)) l.fn.self l.self
