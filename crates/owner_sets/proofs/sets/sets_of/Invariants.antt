use Rattle.owner_sets.proofs.InOrder.{Done}
use Rattle.owner_sets.specs.WhichSets.{listed}
use Rattle.owner_sets.proofs.sets.sets_of.Given as goal

-- the tables so far have their sets
abbrev pub invariant-loop-table : goal.invariant-loop-table
invariant-loop-table g l =
    Done (g.V.StoreView.db l.view) (listed l.which (g.V.StoreView.db l.view)) l.table-items l.table-index l.sets.items
