use Rattle.std.proofs.Common.{◌+◌, ◌*◌}
use Rattle.page_tree.specs.Body.{nodes_of}
use Rattle.page_tree.proofs.likely.+likely.Given as goal

-- the nodes below, each counted twice, and a step in between
abbrev pub decreases-likely_in : goal.decreases-likely_in
decreases-likely_in g l = 2 * l.node.now.below + 1

abbrev pub decreases-likely_among : goal.decreases-likely_among
decreases-likely_among g l = 2 * nodes_of l.nodes.now
