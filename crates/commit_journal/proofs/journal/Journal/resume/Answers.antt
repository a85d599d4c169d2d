use Rattle.std.proofs.Common.{sym, subst}
use Rattle.outer_world.proofs.Moments.{weaker}
use Rattle.outer_world.specs.LeavesOnly.{LeavesOnly}
use Rattle.outer_world.specs.OtherArea.{other_of}
use Rattle.disk_model.specs.Area.{Says, Represent}
use Rattle.commit_journal.specs.AreaCalls.{OnlyIn}
use Rattle.commit_journal.specs.Retired.{IsRetiring}
use Rattle.commit_journal.proofs.Steps.{other-other}
use Rattle.commit_journal.proofs.Stores.{retiring_represents}
use Rattle.commit_journal.proofs.journal.Journal.resume.Goals as goal

pub returns-in-Ok-clause-moments : goal.returns-in-Ok-clause-moments
returns-in-Ok-clause-moments g c stored honest can =
    let D = g.D.Disk in
    let old = c.args.disk in
    let area = c.args.area in
    let apart = other_of area in
    let retired = subst (λ of. LeavesOnly D.moment D.might_have_left (OnlyIn of (IsRetiring (D.holds old of)) (D.holds old (other_of of))) old c.retire.new.disk) c.other_area.ensures (c.retire.ensures.moments honest) in
    weaker D.leaves D.moment D.might_have_left g.met.D.Disk.only_now old c.retire.new.disk _ (λ a b. Represent a b stored)
    (λ a b only. retiring_represents apart stored (D.holds old apart) (D.holds old (other_of apart)) a b
    (subst (λ of. Says (D.holds old of) stored) (sym (other-other area)) can.says) can.below only)
    retired

pub returns-in-Err-clause-moments_err : goal.returns-in-Err-clause-moments_err
returns-in-Err-clause-moments_err g c stored honest can =
    let D = g.D.Disk in
    let old = c.args.disk in
    let area = c.args.area in
    let apart = other_of area in
    let retired = subst (λ of. LeavesOnly D.moment D.might_have_left (OnlyIn of (IsRetiring (D.holds old of)) (D.holds old (other_of of))) old c.retire.new.disk) c.other_area.ensures (c.retire.ensures.moments honest) in
    weaker D.leaves D.moment D.might_have_left g.met.D.Disk.only_now old c.retire.new.disk _ (λ a b. Represent a b stored)
    (λ a b only. retiring_represents apart stored (D.holds old apart) (D.holds old (other_of apart)) a b
    (subst (λ of. Says (D.holds old of) stored) (sym (other-other area)) can.says) can.below only)
    retired
