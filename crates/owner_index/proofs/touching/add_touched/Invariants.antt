use Rattle.std.proofs.Common.{take, ◌≡◌}
use Rattle.move_model.specs.Touches.{TouchesBy}
use Rattle.owner_index.specs.Adds.{Adds, ForSome}
use Rattle.owner_index.proofs.touching.add_touched.Given as goal

-- the row itself, and the rows by the edges so far, are added
abbrev pub invariant-loop-edge : goal.invariant-loop-edge
invariant-loop-edge g l =
    Adds (λ name. l.change.name ≡ name) l.fn.work l.work
    × Adds (ForSome (λ edge name. TouchesBy (g.V.StoreView.db l.view) l.change name edge) (take l.edge-index l.edge-items)) l.fn.work l.work
