use Rattle.std.proofs.Common.{arith, refl}
use Rattle.std.specs.Prelude.{true}
use Rattle.engine_core.proofs.Carried.{carries-sized}
use Rattle.engine_core.proofs.Puts.{refused-verdict}
use Rattle.engine_core.proofs.Sizes.{gated-length}
use Rattle.engine_core.proofs.installing.put_anew.Goals as goal

-- what is laid is an image as long as is told
pub returns-in-Took-clause-carried : goal.returns-in-Took-clause-carried
returns-in-Took-clause-carried g c =
    let D = g.D.Disk in
    carries-sized D.holds D.leaves D.moment D.might_have_left D.honest D.faults c.args.version.now c.args.next true true true _ _ c.args.store.now _ _
    (λ few. gated-length c.args.next _ _ c.requires.gated (omega arith))
    (c.lay-verdict.ensures.carried c.args.version.now c.args.next c.requires.store c.requires.sound c.requires.gated)

pub returns-in-DiskFault : goal.returns-in-DiskFault
returns-in-DiskFault g c =
    let D = g.D.Disk in
    let other = refused-verdict c.lay-verdict.result c.in-DiskFault.is in
    record {
      version = λ took. absurd (other took);
      stays = λ is. refl;
      carried = carries-sized D.holds D.leaves D.moment D.might_have_left D.honest D.faults c.args.version.now c.args.next true true true _ _ c.args.store.now _ _
          (λ few. gated-length c.args.next _ _ c.requires.gated (omega arith))
          (c.lay-verdict.ensures.carried c.args.version.now c.args.next c.requires.store c.requires.sound c.requires.gated);
    }
