use Rattle.std.proofs.Common.{subst, arith}
use Rattle.page_model.specs.Place.{IsPlaceOf}
use Rattle.page_tree.proofs.WithinLemmas.{within_made}
use Rattle.page_tree.proofs.in_place.change_page.Goals.{else-not-ends-via-then-not-ends+else-place-len, else-not-ends-via-else-not-ends}
use Rattle.page_tree.proofs.in_place.change_page.Goals as goal

-- The page shows that the change falls into it.
pub returns : goal.returns
returns g c =
    let key_of = g.By.KeyOf.key_of c.args.by in
    let cmp = g.By.KeyOf.key_cmp in
    let page = c.args.page.now.items in
    let place = c.place_of-place.result in
    let key = g.C.ChangeOf.changed c.args.change.now in
    let is : IsPlaceOf key_of cmp key page place = subst (λ k. IsPlaceOf key_of cmp k page place) c.key.ensures (subst (λ xs. IsPlaceOf key_of cmp c.key.result.now xs place) c.as_slice.ensures.value c.place_of-place.ensures) in
    within_made key_of g.C.ChangeOf.changed g.C.ChangeOf.put c.put_at.result page c.put_at.new.page.items c.args.change.now place c.args.ends
    (omega (arith, c.if-place-eq0.false)) c.requires.page.some is
    (λ end. elim c.else-not-ends.branch [
      | else-not-ends-via-then-not-ends+else-place-len w ↦ absurd (omega (arith, end, w.len-then-not-ends.ensures, w.if-place-len.false))
      | else-not-ends-via-else-not-ends w ↦ w.if-not-ends.false
    ])
    c.put_at.ensures
