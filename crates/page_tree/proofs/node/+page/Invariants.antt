use Rattle.std.proofs.Common.{◌≡◌, slice_get, ◌+◌, ◌*◌, drop}
use Rattle.page_tree.specs.Body.{nodes_of, pages_of}
use Rattle.page_tree.proofs.node.+page.Given as goal

-- the nodes below, each counted twice, and a step in between
abbrev pub decreases-Node::page : goal.decreases-Node::page
decreases-Node::page g l = 2 * l.self.now.below + 1

abbrev pub decreases-page_among : goal.decreases-page_among
decreases-page_among g l = 2 * nodes_of l.nodes.now

-- the number counts from the nodes that are left
abbrev pub invariant-page_among-loop-node : goal.invariant-page_among-loop-node
invariant-page_among-loop-node g l = slice_get (pages_of (drop l.node-index l.nodes)) l.left ≡ slice_get (pages_of l.nodes) l.fn.number
