use Rattle.std.proofs.Common.{take}
use Rattle.owner_index.specs.Uppers.{AreUppersBy}
use Rattle.owner_index.proofs.upper.uppers_of.Given as goal

-- the upper rows by the edges so far are there
abbrev pub invariant-loop-edge : goal.invariant-loop-edge
invariant-loop-edge g l = AreUppersBy (g.V.StoreView.db l.view) l.name (take l.edge-index l.edge-items) l.uppers
