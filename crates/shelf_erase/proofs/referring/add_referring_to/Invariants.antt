use Rattle.shelf_erase.specs.ChangeAt.{change_at}
use Rattle.shelf_erase.specs.Told.{OfFirst, Tells}
use Rattle.shelf_erase.proofs.ReferringLemmas.{RefersToAt}
use Rattle.shelf_erase.proofs.referring.add_referring_to.Given as goal

-- what becomes of the rows that refer to those so far is told
abbrev pub invariant-loop-change : goal.invariant-loop-change
invariant-loop-change g l = Tells (change_at (g.V.StoreView.db l.view) l.subject.0) (OfFirst (RefersToAt (g.V.StoreView.db l.view) l.subject.0 l.gone) l.change-index) l.fn.changes l.changes
