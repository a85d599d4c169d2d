use Rattle.std.proofs.Common.{[], ◌∷◌, refl, true}
use Rattle.std.specs.Prelude.{false}
use Rattle.state_model.specs.Put.{put as put_in}
use Rattle.engine_core.proofs.Carried.{carries-still}
use Rattle.engine_core.proofs.installing.put_in_place.Goals as goal

-- where its record doesn't fit there is no room
pub returns-then-not-fits-clause-carried : goal.returns-then-not-fits-clause-carried
returns-then-not-fits-clause-carried g c =
    let D = g.D.Disk in
    carries-still D.holds D.leaves D.moment D.might_have_left g.met.D.Disk.only_now D.honest D.faults c.args.store.now c.args.version.now (put_in c.args.version.now (c.args.change.now ∷ [])) true true false _ _
    c.requires.store refl refl refl (λ never. absurd (cc))
    (λ same room. let fits = c.fits.ensures.1 room in let never = c.if-not-fits.true in absurd (cc)) (λ asked other. absurd (other refl))

pub returns-clause-carried : goal.returns-clause-carried
returns-clause-carried g c = c.take.ensures.carried c.args.version.now (put_in c.args.version.now (c.args.change.now ∷ [])) c.requires.store c.requires.recorded

-- where it fits there is room
pub returns-clause-stays : goal.returns-clause-stays
returns-clause-stays g c none =
    let room = ((returns-clause-carried g c).room none).1 in
    let fits = c.if-not-fits.false in
    absurd (room (c.fits.ensures.0 (cc)))
