use Rattle.std.proofs.Common.{◌+◌, ◌*◌}
use Rattle.page_tree.specs.Body.{nodes_of}
use Rattle.page_tree.proofs.in_place.+place.Given as goal

-- the nodes below, each counted three times, and the steps in between
abbrev pub decreases-change_alone : goal.decreases-change_alone
decreases-change_alone g l = 3 * l.node.now.value.below + 2

abbrev pub decreases-change_within : goal.decreases-change_within
decreases-change_within g l = 3 * l.node.now.below + 1

abbrev pub decreases-change_among : goal.decreases-change_among
decreases-change_among g l = 3 * nodes_of l.nodes.now.items
