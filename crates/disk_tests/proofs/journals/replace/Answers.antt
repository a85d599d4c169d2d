use Rattle.std.proofs.Common.{refl}
use Rattle.disk_tests.proofs.RestingJournals.{other_rests}
use Rattle.disk_tests.proofs.journals.replace.Goals as goal

pub returns : goal.returns
returns g c = rw c.expect.ensures at (other_rests _ _ _ refl _ _ c.replace.result c.replace.ensures.rests)
