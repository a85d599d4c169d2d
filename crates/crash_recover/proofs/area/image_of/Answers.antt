use Rattle.std.proofs.Common.{length}
use Rattle.crash_recover.proofs.ReadParts.{measured_none}
use Rattle.crash_recover.proofs.area.image_of.Goals as goal

pub returns-in_err-count-clause-none : goal.returns-in_err-count-clause-none
returns-in_err-count-clause-none c = rw c.from_residual.ensures (λ content rest measured. c.in_err-count.ensures.none (length content) measured.0 measured.1)

pub returns-clause-none : goal.returns-clause-none
returns-clause-none c = measured_none c.split_in_front.result 8 c.in_ok-count.count c.args.bytes.now c.in_ok-count.behind.now c.in_ok-count.ensures.some c.split_in_front.ensures.none
