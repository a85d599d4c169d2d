use Rattle.std.proofs.Common.{◌≡◌, slice_get, ◌+◌, ◌*◌, drop}
use Rattle.page_model.specs.Page.{joined}
use Rattle.page_tree.specs.Body.{nodes_of, pages_of}
use Rattle.page_tree.proofs.node.+at.Given as goal

-- the nodes below, each counted twice, and a step in between
abbrev pub decreases-Node::at : goal.decreases-Node::at
decreases-Node::at g l = 2 * l.self.now.below + 1

abbrev pub decreases-at_among : goal.decreases-at_among
decreases-at_among g l = 2 * nodes_of l.nodes.now

-- the place counts from the nodes that are left
abbrev pub invariant-at_among-loop-node : goal.invariant-at_among-loop-node
invariant-at_among-loop-node g l = slice_get (joined (pages_of (drop l.node-index l.nodes))) l.left ≡ slice_get (joined (pages_of l.nodes)) l.fn.place
