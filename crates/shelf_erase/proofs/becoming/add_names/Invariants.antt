use Rattle.shelf_erase.specs.ChangeAt.{change_at}
use Rattle.shelf_erase.specs.Told.{OfFirst, Tells}
use Rattle.shelf_erase.proofs.ShelfPlaces.{IsNameAt}
use Rattle.shelf_erase.proofs.becoming.add_names.Given as goal

-- what becomes of the rows so far is told
abbrev pub invariant-loop-name : goal.invariant-loop-name
invariant-loop-name g l = Tells (change_at (g.V.StoreView.db l.view) l.subject.0) (OfFirst (IsNameAt l.names) l.name-index) l.fn.changes l.changes
