use Rattle.std.proofs.Common.{take}
use Rattle.owner_index.specs.Adds.{Adds, ForSome}
use Rattle.micro_db.specs.Looked.{IsBelowMoved}
use Rattle.micro_db.proofs.looked.add_below_moved.Given as goal

-- the rows below those that moved so far are added
abbrev pub invariant-loop-moved : goal.invariant-loop-moved
invariant-loop-moved g l = Adds (ForSome (IsBelowMoved (g.N.StoreView.db l.after)) (take l.moved-index l.moves)) l.fn.names l.names
