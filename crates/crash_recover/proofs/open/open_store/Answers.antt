use Rattle.std.proofs.Common.{IsTrue, subst, sym}
use Rattle.crash_recover.proofs.Openings.{opened_since}
use Rattle.crash_recover.proofs.open.open_store.Goals as goal

pub returns-in-Ok-clause-moments : goal.returns-in-Ok-clause-moments
returns-in-Ok-clause-moments g c =
    let D = g.D.Disk in
    opened_since D.holds D.leaves D.moment D.might_have_left g.met.D.Disk.only_now c.args.disk c.look.new.disk _ _ c.open_judged.result
    (subst IsTrue (sym c.look.ensures.honesty)) c.look.ensures.kept c.open_judged.ensures.moments
