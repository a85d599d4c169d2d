use Rattle.std.proofs.Common.{refl, arith}
use Rattle.disk_tests.proofs.journals.forget.Goals as goal

pub append-requires-clause-framed : goal.append-requires-clause-framed
append-requires-clause-framed g c = record { size = record { some = omega arith; few = omega arith }; bytes = refl }

pub returns : goal.returns
returns g c = rw c.expect.ensures at c.append.ensures
