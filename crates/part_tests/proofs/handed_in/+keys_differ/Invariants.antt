use Rattle.std.proofs.Common.{length}
use Rattle.part_tests.proofs.handed_in.+keys_differ.Given as goal

abbrev pub decreases-keys_differ : goal.decreases-keys_differ
decreases-keys_differ l = length l.changes.now
