use Rattle.std.proofs.Common.{◌<◌, ◌-◌, drop}
use Rattle.std.specs.Prelude.{false}
use Rattle.page_tree.specs.Body.{pages_of}
use Rattle.page_tree.specs.NodeOf.{Begin}
use Rattle.page_tree.proofs.search.node_of.Given as goal

-- the node before doesn't begin above the key, unless it is the first
abbrev pub invariant-loop-number : goal.invariant-loop-number
invariant-loop-number g l = 0 < l.number - 1 → Begin (g.By.KeyOf.key_of l.by) g.By.KeyOf.key_cmp l.key false (pages_of (drop (l.number - 1) l.nodes))
