use Rattle.engine_core.proofs.Puts.{carries-none, none-prepared}
use Rattle.engine_core.proofs.installing.put.Goals as goal

-- nothing is prepared
pub returns-in_default-clause-carried : goal.returns-in_default-clause-carried
returns-in_default-clause-carried g c =
    let D = g.D.Disk in
    carries-none D.holds D.leaves D.moment D.might_have_left D.honest D.faults c.args.store.now c.args.version.now c.args.next g.met.D.Disk.only_now c.requires.store
    (none-prepared c.args.next c.in_default.not-Some)
