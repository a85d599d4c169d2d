use Rattle.shelf_erase.specs.ChangeAt.{change_at}
use Rattle.shelf_erase.specs.Refers.{RefersOf}
use Rattle.shelf_erase.specs.Told.{OfFirst, Tells}
use Rattle.shelf_erase.proofs.referring.add_referring.Given as goal

-- what becomes of the rows of the tables so far that refer to it is told
abbrev pub invariant-loop-number : goal.invariant-loop-number
invariant-loop-number g l = Tells (change_at (g.V.StoreView.db l.view) l.subject.0) (OfFirst (RefersOf (g.V.StoreView.db l.view) l.gone) l.number) l.fn.changes l.changes
