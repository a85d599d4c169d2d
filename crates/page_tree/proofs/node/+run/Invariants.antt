use Rattle.std.proofs.Common.{◌≡◌, ◌+◌, ◌*◌, drop}
use Rattle.page_model.specs.Page.{joined}
use Rattle.page_tree.specs.Body.{nodes_of, pages_of}
use Rattle.page_tree.proofs.node.+run.Given as goal

-- the nodes below, each counted twice, and a step in between
abbrev pub decreases-Node::run_from : goal.decreases-Node::run_from
decreases-Node::run_from g l = 2 * l.self.now.below + 1

abbrev pub decreases-run_among : goal.decreases-run_among
decreases-run_among g l = 2 * nodes_of l.nodes.now

-- the place counts from the nodes that are left
abbrev pub invariant-run_among-loop-node : goal.invariant-run_among-loop-node
invariant-run_among-loop-node g l = drop l.left (joined (pages_of (drop l.node-index l.nodes))) ≡ drop l.fn.place (joined (pages_of l.nodes))
