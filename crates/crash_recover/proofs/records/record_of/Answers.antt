use Rattle.std.proofs.Common.{length}
use Rattle.crash_recover.proofs.records.record_of.Goals as goal

pub returns-in_err-count-clause-none : goal.returns-in_err-count-clause-none
returns-in_err-count-clause-none c = rw c.from_residual.ensures (λ payload rest record_is. c.in_err-count.ensures.none (length payload) record_is.1.0 record_is.1.1)
