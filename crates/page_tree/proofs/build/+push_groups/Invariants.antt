use Rattle.std.proofs.Common.{length}
use Rattle.page_tree.proofs.build.+push_groups.Given as goal

abbrev pub decreases-push_groups : goal.decreases-push_groups
decreases-push_groups g l = length l.nodes.now
