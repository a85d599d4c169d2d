use Rattle.std.proofs.Common.{refl}
use Rattle.engine_core.proofs.Puts.{refused-verdict}
use Rattle.engine_core.proofs.installing.put_beside.Goals as goal

-- the disk took its record
pub returns-in-Took-clause-carried : goal.returns-in-Took-clause-carried
returns-in-Took-clause-carried g c = c.take-verdict.ensures.carried c.args.version.now c.args.next c.requires.store c.requires.recorded

-- or it didn't
pub returns-in-DiskFault : goal.returns-in-DiskFault
returns-in-DiskFault g c =
    let other = refused-verdict c.take-verdict.result c.in-DiskFault.is in
    record {
      version = λ took. absurd (other took);
      stays = λ is. refl;
      carried = c.take-verdict.ensures.carried c.args.version.now c.args.next c.requires.store c.requires.recorded;
    }
