use Rattle.std.proofs.Common.{◌≡◌, map, take}
use Rattle.std.specs.Prelude.{filter}
use Rattle.own_model.specs.declared.schema.Edge.{Edge}
use Rattle.subject_model.specs.Owners.{reaches_by}
use Rattle.shelf_erase.proofs.sought.by_of.Given as goal

-- the edges so far by which the subject reaches the row
abbrev pub invariant-loop-edge : goal.invariant-loop-edge
invariant-loop-edge g l = l.by ≡ map (λ (edge : Edge). edge.number) (filter (reaches_by (g.V.StoreView.db l.view) l.subject.0 l.name) (take l.edge-index l.edge-items))
