use Rattle.std.proofs.Common.{IsTrue, inl, inr, subst, sym, arith}
use Rattle.outer_world.proofs.Moments.{then, weaker}
use Rattle.own_base.specs.declared.number.Area.TheVariants.{A, B}
use Rattle.disk_model.specs.Area.{IsOpened, Says, laid}
use Rattle.commit_journal.specs.JournalState.{RepresentAtMost}
use Rattle.commit_journal.proofs.AreaBytes.{laid_says, shut_below}
use Rattle.commit_journal.proofs.Stores.{nothing_while_retiring, at_most_while_filling, retiring_represents}
use Rattle.commit_journal.proofs.journal.begin.Goals as goal

pub returns-in_err-fill-clause-moments : goal.returns-in_err-fill-clause-moments
returns-in_err-fill-clause-moments g c honest =
    let D = g.D.Disk in
    let only_now = g.met.D.Disk.only_now in
    let old = c.args.disk.now in
    let one = c.retire_shut.new.disk in
    let two = c.fill.new.disk in
    let P = RepresentAtMost (laid 1 c.args.gated.now) in
    let honest_1 : IsTrue (D.honest one) = subst IsTrue (sym c.retire_shut.ensures.honesty) honest in
    let made = c.in_ok-retire_shut.ensures.made honest in
    let not_b : ¬ IsOpened (D.holds one B) = subst (λ l. ¬ IsOpened l) (sym made.beside) (c.requires.not_b honest) in
    let first = weaker D.leaves D.moment D.might_have_left only_now old one _ P
    (λ a b only. inl (nothing_while_retiring (D.holds old A) (D.holds old B) a b (c.requires.not_a honest) (c.requires.not_b honest) only))
    (c.retire_shut.ensures.moments honest) in
    let second = weaker D.leaves D.moment D.might_have_left only_now one two _ P
    (λ a b only. at_most_while_filling (laid 1 c.args.gated.now) (D.holds one B) a b not_b only)
    (c.fill.ensures.moments honest_1) in
    then D.leaves D.moment D.might_have_left only_now old one two P first second

pub returns-clause-moments : goal.returns-clause-moments
returns-clause-moments g c honest =
    let D = g.D.Disk in
    let only_now = g.met.D.Disk.only_now in
    let old = c.args.disk.now in
    let one = c.retire_shut.new.disk in
    let two = c.fill.new.disk in
    let last = c.retire_shut-2.new.disk in
    let new = laid 1 c.args.gated.now in
    let P = RepresentAtMost new in
    let honest_1 : IsTrue (D.honest one) = subst IsTrue (sym c.retire_shut.ensures.honesty) honest in
    let honest_2 : IsTrue (D.honest two) = subst IsTrue (sym c.fill.ensures.honesty) honest_1 in
    let made = c.in_ok-retire_shut.ensures.made honest in
    let not_b : ¬ IsOpened (D.holds one B) = subst (λ l. ¬ IsOpened l) (sym made.beside) (c.requires.not_b honest) in
    let filled = c.in_ok-fill.ensures.made honest_1 in
    let still_not_b : ¬ IsOpened (D.holds two B) = subst (λ l. ¬ IsOpened l) (sym filled.beside) not_b in
    let full : Says (D.holds two A) new = laid_says 1 c.args.gated.now c.requires.gated (omega arith) (omega arith) c.requires.room (D.holds two A) filled.here in
    let first = weaker D.leaves D.moment D.might_have_left only_now old one _ P
    (λ a b only. inl (nothing_while_retiring (D.holds old A) (D.holds old B) a b (c.requires.not_a honest) (c.requires.not_b honest) only))
    (c.retire_shut.ensures.moments honest) in
    let second = weaker D.leaves D.moment D.might_have_left only_now one two _ P
    (λ a b only. at_most_while_filling new (D.holds one B) a b not_b only)
    (c.fill.ensures.moments honest_1) in
    let third = weaker D.leaves D.moment D.might_have_left only_now two last _ P
    (λ a b only. inr (retiring_represents B new (D.holds two B) (D.holds two A) a b full (shut_below (D.holds two B) new.epoch still_not_b) only))
    (c.retire_shut-2.ensures.moments honest_2) in
    then D.leaves D.moment D.might_have_left only_now old two last P (then D.leaves D.moment D.might_have_left only_now old one two P first second) third
