use Rattle.std.proofs.Common.{ap₂}
use Rattle.crash_recover.proofs.Openings.{beginning, opened_empty}
use Rattle.crash_recover.proofs.open.begin.Goals as goal

pub returns-in-Ok-first-clause-opened : goal.returns-in-Ok-first-clause-opened
returns-in-Ok-first-clause-opened g c honest =
    let D = g.D.Disk in
    opened_empty D.holds D.leaves c.args.disk _ (c.requires.found honest) c.in-Ok-first.ensures.at (c.in-Ok-first.ensures.rests honest)
    (ap₂ (λ creates tables. record { commits = 0; creates = creates; tables = tables }) c.new-2.ensures c.new-3.ensures) c.new-in-Ok-first.ensures c.in-Ok.ensures

pub returns-in-Ok-first-clause-moments : goal.returns-in-Ok-first-clause-moments
returns-in-Ok-first-clause-moments g c honest =
    let D = g.D.Disk in
    beginning D.holds D.leaves D.moment D.might_have_left g.met.D.Disk.only_now c.args.disk c.in-Ok-first.journal.disk (c.requires.found honest) (c.in-Ok-first.ensures.moments honest)

pub returns-in-Err-clause-moments_err : goal.returns-in-Err-clause-moments_err
returns-in-Err-clause-moments_err g c honest =
    let D = g.D.Disk in
    beginning D.holds D.leaves D.moment D.might_have_left g.met.D.Disk.only_now c.args.disk c.in-Err.disk (c.requires.found honest) (c.in-Err.ensures.moments_err honest)
