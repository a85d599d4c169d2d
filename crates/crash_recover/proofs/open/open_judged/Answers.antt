use Rattle.std.proofs.Common.{◌≡◌, ℕ, subst}
use Rattle.own_base.specs.declared.number.Area.{Area}
use Rattle.own_base.specs.declared.number.Area.TheVariants.{A, B}
use Rattle.disk_model.specs.Judged.{IsJudged}
use Rattle.disk_model.specs.JudgedArea as found
use Rattle.crash_recover.specs.declared.open.OpenFault.TheVariants.{Damaged}
use Rattle.crash_recover.specs.Recovered.{IsFound}
use Rattle.crash_recover.proofs.Openings.{going_on, opened_whole}
use Rattle.crash_recover.proofs.open.open_judged.Goals as goal

-- a fault tells of one place
same_place : (one other : Area) (m n : ℕ) → Damaged one m ≡ Damaged other n → found.Damaged one m ≡ found.Damaged other n
same_place one other m n same = cc

pub returns-in-Ok-clause-opened : goal.returns-in-Ok-clause-opened
returns-in-Ok-clause-opened g c honest =
    let D = g.D.Disk in
    let old = c.args.disk in
    let w = c.in-Whole in
    opened_whole D.holds D.leaves old _ w.area w.epoch w.end (subst (IsFound (D.holds old A) (D.holds old B)) w.is (c.requires.found honest)) (c.requires.synced honest)
    c.in-Ok.ensures.at (λ stored can. c.in-Ok.ensures.rests stored honest can)

pub returns-in-Ok-clause-moments : goal.returns-in-Ok-clause-moments
returns-in-Ok-clause-moments g c honest =
    let D = g.D.Disk in
    let old = c.args.disk in
    let w = c.in-Whole in
    going_on D.holds D.leaves D.moment D.might_have_left g.met.D.Disk.only_now old c.in-Ok.journal.disk w.area w.epoch w.image w.commits w.end w.state
    (subst (IsFound (D.holds old A) (D.holds old B)) w.is (c.requires.found honest)) (c.requires.synced honest)
    (λ stored can. c.in-Ok.ensures.moments stored honest can)

pub returns-in-Err-clause-moments_err : goal.returns-in-Err-clause-moments_err
returns-in-Err-clause-moments_err g c honest =
    let D = g.D.Disk in
    let old = c.args.disk in
    let w = c.in-Whole in
    going_on D.holds D.leaves D.moment D.might_have_left g.met.D.Disk.only_now old c.in-Err.disk w.area w.epoch w.image w.commits w.end w.state
    (subst (IsFound (D.holds old A) (D.holds old B)) w.is (c.requires.found honest)) (c.requires.synced honest)
    (λ stored can. c.in-Err.ensures.moments_err stored honest can)

pub returns-in-Damaged-clause-damaged : goal.returns-in-Damaged-clause-damaged
returns-in-Damaged-clause-damaged g c area offset same honest =
    let a = g.D.Disk.holds c.args.disk A in
    let b = g.D.Disk.holds c.args.disk B in
    subst (IsJudged a b) (same_place c.in-Damaged.area area c.in-Damaged.offset offset same) (subst (IsFound a b) c.in-Damaged.is (c.requires.found honest))
