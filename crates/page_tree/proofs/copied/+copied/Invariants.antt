use Rattle.std.proofs.Common.{◌+◌, ◌*◌}
use Rattle.page_tree.specs.Body.{nodes_of}
use Rattle.page_tree.proofs.copied.+copied.Given as goal

-- the nodes below, each counted twice, and a step in between
abbrev pub decreases-copied_node : goal.decreases-copied_node
decreases-copied_node g l = 2 * l.node.now.below + 1

abbrev pub decreases-copied_among : goal.decreases-copied_among
decreases-copied_among g l = 2 * nodes_of l.nodes.now
