use Rattle.shelf_erase.specs.ChangeAt.{change_at}
use Rattle.shelf_erase.specs.Refers.{RefersBy}
use Rattle.shelf_erase.specs.Told.{OfFirst, Tells}
use Rattle.shelf_erase.proofs.referring.add_table.Given as goal

-- what becomes of the rows that refer in the columns so far is told
abbrev pub invariant-loop-number : goal.invariant-loop-number
invariant-loop-number g l = Tells (change_at (g.V.StoreView.db l.view) l.subject.0) (OfFirst (RefersBy (g.V.StoreView.db l.view) l.gone l.table.0 l.definition) l.number) l.fn.changes l.changes
