use Rattle.std.proofs.Common.{◌-◌}
use Rattle.link_model.specs.Holds.{holders_at}
use Rattle.shelf_erase.proofs.Steps.{SoFar}
use Rattle.shelf_erase.proofs.lists.holders_of.Given as goal

-- the keys before the place are there
abbrev pub invariant-loop-at : goal.invariant-loop-at
invariant-loop-at g l = SoFar (holders_at (g.V.Referring.linked l.view) l.table.0 l.column.0 l.key) l.count l.at l.list

abbrev pub decreases-loop-at : goal.decreases-loop-at
decreases-loop-at g l = l.count - l.at
