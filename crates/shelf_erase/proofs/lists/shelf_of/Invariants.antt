use Rattle.std.proofs.Common.{◌-◌}
use Rattle.shelf_erase.proofs.Steps.{SoFar}
use Rattle.shelf_erase.proofs.lists.shelf_of.Given as goal
use Rattle.shelf_model.specs.Shelf.{shelf}

-- what stands before the place is there
abbrev pub invariant-loop-at : goal.invariant-loop-at
invariant-loop-at g l = SoFar (shelf (g.V.Shelves.shelved l.view) l.subject.0) l.count l.at l.list

abbrev pub decreases-loop-at : goal.decreases-loop-at
decreases-loop-at g l = l.count - l.at
