use Rattle.std.proofs.Common.{false, refl, true}
use Rattle.engine_core.proofs.Carried.{carries-still}
use Rattle.engine_core.proofs.taking.take.Goals as goal

-- where it doesn't fit there is no room
pub returns-then-not-fits : goal.returns-then-not-fits
returns-then-not-fits g c =
    let D = g.D.Disk in
    record {
      carried = λ db next up is.
          carries-still D.holds D.leaves D.moment D.might_have_left g.met.D.Disk.only_now D.honest D.faults c.args.store.now db next true true false _ _ up refl refl refl (λ never. absurd (cc))
          (λ same room. let fits = c.fits.ensures.1 room in let never = c.if-not-fits.true in absurd (cc)) (λ asked other. absurd (other refl));
    }
