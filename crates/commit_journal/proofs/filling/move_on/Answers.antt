use Rattle.std.proofs.Common.{◌≡◌, ◌<◌, [], ◌∷◌, ◌++◌, IsTrue, inr, ap, subst, sym, ◌∙◌, arith}
use Rattle.outer_world.proofs.Moments.{then, weaker}
use Rattle.outer_world.specs.LeavesOnly.{LeavesOnly}
use Rattle.outer_world.specs.OtherArea.{other_of}
use Rattle.disk_model.specs.Area.{IsBelow, Says, in_front, laid}
use Rattle.disk_model.proofs.AreaLaws.{says_epoch}
use Rattle.commit_journal.specs.AreaCalls.{IsMade, OnlyIn}
use Rattle.commit_journal.specs.Filled.{IsFilling}
use Rattle.commit_journal.specs.JournalState.{RepresentEither}
use Rattle.commit_journal.proofs.AreaBytes.{laid_says}
use Rattle.commit_journal.proofs.Steps.{other-other}
use Rattle.commit_journal.proofs.Stores.{filling_represents, retiring_represents}
use Rattle.commit_journal.proofs.filling.move_on.Goals as goal

-- while the other area is filled it says nothing, or all of it, under the higher epoch
pub returns-in_err-fill-clause-moments : goal.returns-in_err-fill-clause-moments
returns-in_err-fill-clause-moments g c stored honest says =
    let D = g.D.Disk in
    let old = c.args.disk.now in
    let area = c.args.area in
    let new = laid c.args.epoch c.args.gated.now in
    let less = c.requires.says honest in
    let same : stored.epoch ≡ less.stored.epoch = sym (says_epoch (D.holds old area) stored says) ∙ says_epoch (D.holds old area) less.stored less.says in
    let lower_is = less.lower in
    let lower : stored.epoch < c.args.epoch = omega arith in
    let filled = subst (λ of. LeavesOnly D.moment D.might_have_left (OnlyIn of (IsFilling new) (D.holds old (other_of of))) old c.fill.new.disk) c.other_area.ensures (c.fill.ensures.moments honest) in
    weaker D.leaves D.moment D.might_have_left g.met.D.Disk.only_now old c.fill.new.disk _ (RepresentEither stored new)
    (λ a b only. filling_represents area stored new (D.holds old area) a b says lower
    (subst (λ beside. OnlyIn (other_of area) (IsFilling new) beside a b) (ap (D.holds old) (other-other area)) only))
    filled

pub returns-clause-moments : goal.returns-clause-moments
returns-clause-moments g c stored honest says =
    let D = g.D.Disk in
    let only_now = g.met.D.Disk.only_now in
    let old = c.args.disk.now in
    let one = c.fill.new.disk in
    let last = c.retire_opened.new.disk in
    let area = c.args.area in
    let new = laid c.args.epoch c.args.gated.now in
    let less = c.requires.says honest in
    let same : stored.epoch ≡ less.stored.epoch = sym (says_epoch (D.holds old area) stored says) ∙ says_epoch (D.holds old area) less.stored less.says in
    let lower_is = less.lower in
    let lower : stored.epoch < c.args.epoch = omega arith in
    let honest_1 : IsTrue (D.honest one) = subst IsTrue (sym c.fill.ensures.honesty) honest in
    let filled = subst (λ of. LeavesOnly D.moment D.might_have_left (OnlyIn of (IsFilling new) (D.holds old (other_of of))) old one) c.other_area.ensures (c.fill.ensures.moments honest) in
    let first = weaker D.leaves D.moment D.might_have_left only_now old one _ (RepresentEither stored new)
    (λ a b only. filling_represents area stored new (D.holds old area) a b says lower
    (subst (λ beside. OnlyIn (other_of area) (IsFilling new) beside a b) (ap (D.holds old) (other-other area)) only))
    filled in
    let made = subst (λ of. IsMade D.holds D.leaves of (in_front new ++ 0 ∷ []) old one) c.other_area.ensures (c.in_ok-fill.ensures.made honest) in
    let here : D.holds one area ≡ D.holds old area = ap (D.holds one) (sym (other-other area)) ∙ made.beside ∙ ap (D.holds old) (other-other area) in
    let full : Says (D.holds one (other_of area)) new = laid_says c.args.epoch c.args.gated.now c.requires.gated c.requires.first c.requires.last c.requires.room (D.holds one (other_of area)) made.here in
    let still : Says (D.holds one area) stored = subst (λ l. Says l stored) (sym here) says in
    let epoch = says_epoch (D.holds one area) stored still in
    let below : IsBelow (D.holds one area) new.epoch = λ _. omega arith in
    let second = weaker D.leaves D.moment D.might_have_left only_now one last _ (RepresentEither stored new)
    (λ a b only. inr (retiring_represents area new (D.holds one area) (D.holds one (other_of area)) a b full below only))
    (c.retire_opened.ensures.moments honest_1) in
    then D.leaves D.moment D.might_have_left only_now old one last (RepresentEither stored new) first second
