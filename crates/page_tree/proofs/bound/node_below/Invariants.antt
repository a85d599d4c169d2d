use Rattle.std.proofs.Common.{◌<◌, ◌-◌, drop}
use Rattle.std.specs.Prelude.{true}
use Rattle.page_tree.specs.Body.{pages_of}
use Rattle.page_tree.specs.NodeBelow.{Starts}
use Rattle.page_tree.proofs.bound.node_below.Given as goal

-- the node before begins below the bound, unless it is the first
abbrev pub invariant-loop-number : goal.invariant-loop-number
invariant-loop-number g l = 0 < l.number - 1 → Starts (g.B.BoundOf.below l.bound l.by) true (pages_of (drop (l.number - 1) l.nodes))
