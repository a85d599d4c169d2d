use Rattle.std.proofs.Common.{length}
use Rattle.state_tests.proofs.spaces.+are_changes_of.Given as goal

abbrev pub decreases-are_changes_of : goal.decreases-are_changes_of
decreases-are_changes_of l = length l.changes.now
