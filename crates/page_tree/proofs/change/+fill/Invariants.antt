use Rattle.std.proofs.Common.{length}
use Rattle.page_tree.proofs.change.+fill.Given as goal

abbrev pub decreases-fill : goal.decreases-fill
decreases-fill g l = length l.changes.now
