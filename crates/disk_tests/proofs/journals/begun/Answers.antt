use Rattle.std.proofs.Common.{refl}
use Rattle.disk_tests.proofs.journals.begun.Goals as goal

pub begin-requires-clause-gated : goal.begin-requires-clause-gated
begin-requires-clause-gated g c = record { bytes = refl }

pub returns : goal.returns
returns g c = rw c.expect.ensures at c.begin.ensures
