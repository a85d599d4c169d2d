use Rattle.shelf_erase.specs.Sought.{LeadsBy}
use Rattle.shelf_erase.proofs.Steps.{NoneOf}
use Rattle.shelf_erase.proofs.sought.Sought.is_above.Given as goal

-- no edge so far leads to one
abbrev pub invariant-loop-edge : goal.invariant-loop-edge
invariant-loop-edge g l = NoneOf (LeadsBy (g.V.StoreView.db l.view) l.self l.subject.0 l.removals l.name) l.edge-items l.edge-index
