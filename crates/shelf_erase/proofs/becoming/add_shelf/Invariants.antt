use Rattle.shelf_erase.specs.ChangeAt.{change_at}
use Rattle.shelf_erase.specs.Told.{OfFirst, Tells}
use Rattle.shelf_erase.proofs.ShelfPlaces.{IsShelved}
use Rattle.shelf_erase.proofs.becoming.add_shelf.Given as goal

-- what becomes of the rows so far is told
abbrev pub invariant-loop-copy : goal.invariant-loop-copy
invariant-loop-copy g l = Tells (change_at (g.V.StoreView.db l.view) l.subject.0) (OfFirst (IsShelved l.shelf) l.copy-index) l.fn.changes l.changes
