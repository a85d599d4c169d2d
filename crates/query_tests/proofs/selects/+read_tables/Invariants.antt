use Rattle.std.proofs.Common.{length}
use Rattle.query_tests.proofs.selects.+read_tables.Given as goal

abbrev pub decreases-read_tables : goal.decreases-read_tables
decreases-read_tables l = length l.views.now
