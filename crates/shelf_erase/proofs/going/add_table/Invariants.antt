use Rattle.shelf_erase.specs.Above.{AboveTold}
use Rattle.shelf_erase.specs.ChangeAt.{removal_at}
use Rattle.shelf_erase.specs.Told.{OfFirst, Tells}
use Rattle.shelf_erase.proofs.ShelfPlaces.{IsShelvedIn}
use Rattle.shelf_erase.proofs.going.add_table.Given as goal

-- of the rows so far that are of the table it is told which go
abbrev pub invariant-loop-copy : goal.invariant-loop-copy
invariant-loop-copy g l =
    let db = g.V.StoreView.db l.view in
    AboveTold db l.subject.0 l.table l.fn.removals → Tells (removal_at db l.subject.0) (OfFirst (IsShelvedIn l.shelf l.table) l.copy-index) l.fn.removals l.removals
