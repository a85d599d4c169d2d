use Rattle.std.proofs.Common.{take}
use Rattle.owner_model.specs.Joins.{Joins}
use Rattle.owner_index.specs.Adds.{Adds, ForSome}
use Rattle.micro_db.proofs.below.add_below.Given as goal

-- the rows below by the edges so far are added
abbrev pub invariant-loop-edge : goal.invariant-loop-edge
invariant-loop-edge g l = Adds (ForSome (λ edge lower. Joins (g.N.StoreView.db l.after) lower edge l.name) (take l.edge-index l.edge-items)) l.fn.work l.work
