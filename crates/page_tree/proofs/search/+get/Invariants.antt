use Rattle.std.proofs.Common.{◌+◌, ◌*◌}
use Rattle.page_tree.specs.Body.{nodes_of}
use Rattle.page_tree.proofs.search.+get.Given as goal

-- the nodes below, each counted twice, and a step in between
abbrev pub decreases-item_in : goal.decreases-item_in
decreases-item_in g l = 2 * l.node.now.below + 1

abbrev pub decreases-item_among : goal.decreases-item_among
decreases-item_among g l = 2 * nodes_of l.nodes.now
