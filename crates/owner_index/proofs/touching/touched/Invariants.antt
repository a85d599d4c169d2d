use Rattle.std.proofs.Common.{take, []}
use Rattle.move_model.specs.Touches.{Touches}
use Rattle.owner_index.specs.Adds.{Adds, ForSome}
use Rattle.owner_index.proofs.touching.touched.Given as goal

-- the rows that the changes so far touch are added
abbrev pub invariant-loop-change : goal.invariant-loop-change
invariant-loop-change g l = Adds (ForSome (Touches (g.V.StoreView.db l.view)) (take l.change-index l.changes)) [] l.names
