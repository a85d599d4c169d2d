use Rattle.std.proofs.Common.{◌+◌, ◌*◌}
use Rattle.page_tree.specs.Body.{nodes_of}
use Rattle.page_tree.proofs.change.+change.Given as goal

-- the nodes below, each counted twice, and a step in between
abbrev pub decreases-change_node : goal.decreases-change_node
decreases-change_node g l = 2 * l.node.now.below + 1

abbrev pub decreases-change_nodes : goal.decreases-change_nodes
decreases-change_nodes g l = 2 * nodes_of l.nodes.now
