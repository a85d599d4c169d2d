use Rattle.std.proofs.Common.{◌≤◌, drop, length}
use Rattle.micro_db.specs.Renewed.{ForSomeOf, IsMoveAt, Renews}
use Rattle.micro_db.proofs.micro.MicroDb.renew_moved.Given as goal

-- where the moves behind a place are
abbrev pub invariant-loop-left : goal.invariant-loop-left
invariant-loop-left g l = (l.left ≤ length l.moves) × Renews (g.N.StoreView.db l.after) (ForSomeOf IsMoveAt (drop l.left l.moves)) l.fn.self l.self

abbrev pub decreases-loop-left : goal.decreases-loop-left
decreases-loop-left g l = l.left
