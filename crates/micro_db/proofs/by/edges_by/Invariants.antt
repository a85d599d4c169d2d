use Rattle.std.proofs.Common.{◌≡◌, map, take}
use Rattle.std.specs.Prelude.{filter}
use Rattle.subject_model.specs.Owners.{reaches_by}
use Rattle.micro_db.proofs.by.edges_by.Given as goal

-- those of the edges so far
abbrev pub invariant-loop-edge : goal.invariant-loop-edge
invariant-loop-edge g l = l.by ≡ map (λ edge. edge.number) (filter (reaches_by (g.N.StoreView.db l.after) l.subject.0 l.name) (take l.edge-index l.edge-items))
