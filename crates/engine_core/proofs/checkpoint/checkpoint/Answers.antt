use Rattle.std.proofs.Common.{◌≡◌, ◌+◌, arith, false, subst, sym, true}
use Rattle.check_image.specs.Gated.{IsGatedImage}
use Rattle.engine_core.proofs.Carried.{carries-sized}
use Rattle.engine_core.proofs.Sizes.{gated-length}
use Rattle.engine_core.proofs.checkpoint.checkpoint.Goals as goal

-- what is laid is the image of the database
pub lay-verdict-requires-clause-gated : goal.lay-verdict-requires-clause-gated
lay-verdict-requires-clause-gated g c =
    let db = c.args.version.now in
    let store = c.args.store.now in
    let is : IsGatedImage db store.commits c.items.result.now = subst (IsGatedImage db store.commits) (sym c.items.ensures) (rw c.commits.ensures at c.in_ok-gated.ensures) in
    let same : store.commits ≡ store.commits + 0 = omega arith in
    record { db = db; is = subst (λ number. IsGatedImage db number c.items.result.now) same is }

-- and so it is carried
pub returns-clause-carried : goal.returns-clause-carried
returns-clause-carried g c =
    let D = g.D.Disk in
    let db = c.args.version.now in
    let store = c.args.store.now in
    let is : IsGatedImage db store.commits c.items.result.now = subst (IsGatedImage db store.commits) (sym c.items.ensures) (rw c.commits.ensures at c.in_ok-gated.ensures) in
    let same : store.commits ≡ store.commits + 0 = omega arith in
    let numbered : IsGatedImage db (store.commits + 0) c.items.result.now = subst (λ number. IsGatedImage db number c.items.result.now) same is in
    carries-sized D.holds D.leaves D.moment D.might_have_left D.honest D.faults db db true false true _ _ store _ _ (λ few. gated-length db store.commits _ is (omega arith))
    (c.lay-verdict.ensures.carried db db c.requires.store c.requires.sound numbered)
