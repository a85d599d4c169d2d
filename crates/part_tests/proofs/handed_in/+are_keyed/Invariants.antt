use Rattle.std.proofs.Common.{length}
use Rattle.part_tests.proofs.handed_in.+are_keyed.Given as goal

abbrev pub decreases-are_keyed : goal.decreases-are_keyed
decreases-are_keyed l = length l.changes.now
