use Rattle.std.proofs.Common.{◌≤◌, ◌+◌, ◌∙◌, Bool, true, false, arith, lit≤, refl, rules, subst, sym}
use Rattle.std.specs.Prelude.{if◌then◌else◌, length}
use Rattle.outer_world.specs.OtherArea.{other_of}
use Rattle.store_disk.specs.Kept.{IsEither, IsKept, IsSomeGated}
use Rattle.outer_world.specs.LeavesOnly.{LeavesOnly}
use Rattle.check_image.specs.Gated.{IsGatedImage}
use Rattle.crash_model.specs.Alone.{IsAloneOn}
use Rattle.engine_core.proofs.Carried.{carries-laid, carries-still, carries-unlaid}
use Rattle.engine_core.proofs.taking.lay.Goals as goal

one_most : (b : Bool) → (if b then 1 else 0) ≤ 1
one_most true = lit≤ tt
one_most false = lit≤ tt

-- where it doesn't fit there is no room
pub returns-then-not-fits : goal.returns-then-not-fits
returns-then-not-fits g c =
    let D = g.D.Disk in
    record {
      carried = λ db next up sound is.
          carries-still D.holds D.leaves D.moment D.might_have_left g.met.D.Disk.only_now D.honest D.faults c.args.store.now db next true c.args.counts true _ _ up refl refl refl (λ never. absurd (cc))
          (λ same room. let fits = c.fits.ensures.1 room in let never = c.if-not-fits.true in absurd (cc)) (λ asked other. absurd (other refl));
    }

pub commits_of-commits-requires : goal.commits_of-commits-requires
commits_of-commits-requires g c = let fits = c.if-not-fits.false in (c.fits.ensures.0 (search rules)).one_more

pub replace-requires-clause-gated : goal.replace-requires-clause-gated
replace-requires-clause-gated g c = subst (λ number. IsSomeGated number c.args.gated.now) (sym c.commits_of-commits.ensures) c.requires.gated

pub replace-requires-clause-most : goal.replace-requires-clause-most
replace-requires-clause-most g c = let most = one_most c.args.counts in let is = c.commits_of-commits.ensures in omega arith

-- the disk took its image
pub returns-in-Ok : goal.returns-in-Ok
returns-in-Ok g c =
    let D = g.D.Disk in
    let before = c.args.store.now in
    let after = c.replace.new.self in
    let gated = c.args.gated.now in
    let number = c.commits_of-commits.ensures in
    record {
      carried = λ db next up sound is.
          let own : IsGatedImage next c.commits_of-commits.result gated = subst (λ number. IsGatedImage next number gated) (sym number) is in
          carries-laid D.holds D.leaves D.moment D.might_have_left D.honest D.faults before after db next c.args.counts (length gated) (c.fits.ensures.0 (search rules))
          (λ honest. subst (λ number. LeavesOnly D.moment D.might_have_left (IsEither db before.commits next number) before.journal.disk after.journal.disk) number
          (c.replace.ensures.moments db next honest sound own (up.kept honest)))
          c.replace.ensures.honesty c.replace.ensures.time c.in-Ok.ensures.at (c.in-Ok.ensures.commits ∙ number)
          (λ honest. subst (IsKept D.holds D.leaves after.journal next) (sym c.in-Ok.ensures.commits) (c.in-Ok.ensures.kept next honest sound own))
          (λ honest. subst (λ number. IsAloneOn D.holds D.leaves after.journal.disk next number (before.journal.epoch + 1) (other_of before.journal.area)) (sym c.in-Ok.ensures.commits) (c.in-Ok.ensures.alone next honest own))
          c.in-Ok.ensures.steady;
    }

-- or it failed
pub returns-in-Err : goal.returns-in-Err
returns-in-Err g c =
    let D = g.D.Disk in
    let before = c.args.store.now in
    let after = c.replace.new.self in
    let gated = c.args.gated.now in
    let number = c.commits_of-commits.ensures in
    record {
      carried = λ db next up sound is.
          let own : IsGatedImage next c.commits_of-commits.result gated = subst (λ number. IsGatedImage next number gated) (sym number) is in
          carries-unlaid D.holds D.leaves D.moment D.might_have_left D.honest D.faults before after db next c.args.counts (length gated) (c.fits.ensures.0 (search rules))
          (λ honest. subst (λ number. LeavesOnly D.moment D.might_have_left (IsEither db before.commits next number) before.journal.disk after.journal.disk) number
          (c.replace.ensures.moments db next honest sound own (up.kept honest)))
          c.replace.ensures.honesty c.replace.ensures.time c.in-Err.ensures.failed c.in-Err.ensures.no_more c.in-Err.ensures.fault c.replace.ensures.counted;
    }
