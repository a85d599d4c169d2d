use Rattle.std.proofs.Common.{◌+◌, ◌*◌}
use Rattle.page_tree.specs.Body.{nodes_of}
use Rattle.page_tree.proofs.bound.+place.Given as goal

-- the nodes below, each counted twice, and a step in between
abbrev pub decreases-place_in : goal.decreases-place_in
decreases-place_in g l = 2 * l.node.now.below + 1

abbrev pub decreases-place_among : goal.decreases-place_among
decreases-place_among g l = 2 * nodes_of l.nodes.now
