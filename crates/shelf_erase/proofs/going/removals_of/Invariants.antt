use Rattle.shelf_erase.proofs.Removing.{OrderTold}
use Rattle.shelf_erase.proofs.going.removals_of.Given as goal

-- of the rows of the tables so far it is told which go
abbrev pub invariant-loop-table : goal.invariant-loop-table
invariant-loop-table g l = OrderTold (g.V.StoreView.db l.view) l.subject.0 l.table-items l.table-index l.removals
