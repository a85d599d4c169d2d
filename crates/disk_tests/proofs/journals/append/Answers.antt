use Rattle.std.proofs.Common.{refl}
use Rattle.disk_tests.proofs.RestingJournals.{changed_rests}
use Rattle.disk_tests.proofs.journals.append.Goals as goal

pub returns : goal.returns
returns c = changed_rests _ _ _ refl _ _ _ c.append.result c.append.ensures.rests c.requires.rests
