use Rattle.std.proofs.Common.{◌≡◌, ◌∙◌, ap, sym, subst, drop, Some, arith}
use Rattle.std.specs.Option.{option_copied}
use Rattle.page_model.specs.Changed.{above_key}
use Rattle.page_model.specs.Place.{IsPlaceOf}
use Rattle.page_tree.proofs.CutLemmas.{page_cut_made}
use Rattle.page_tree.proofs.cut.cut_page.Goals.{else-not-ends-via-then-not-ends+else-place-len, else-not-ends-via-else-not-ends}
use Rattle.page_tree.proofs.cut.cut_page.Goals as goal

-- The page shows that the change falls into it, and took its item.
pub returns-clause-cut : goal.returns-clause-cut
returns-clause-cut g c =
    let key_of = g.By.KeyOf.key_of c.args.by in
    let cmp = g.By.KeyOf.key_cmp in
    let page = c.args.page.now.items in
    let place = c.place_of-place.result in
    let behind = c.above_from-behind.result in
    let key = g.C.ChangeOf.changed c.args.change.now in
    let is : IsPlaceOf key_of cmp key page place = subst (λ k. IsPlaceOf key_of cmp k page place) c.key.ensures (subst (λ xs. IsPlaceOf key_of cmp c.key.result.now xs place) c.as_slice.ensures.value c.place_of-place.ensures) in
    let above : above_key key_of cmp key page ≡ drop behind page =
    subst (λ k. above_key key_of cmp k page ≡ drop behind page) c.key-2.ensures (subst (λ xs. above_key key_of cmp c.key-2.result.now xs ≡ drop behind xs) c.as_slice-2.ensures.value c.above_from-behind.ensures.above) in
    let same : behind ≡ place = omega (arith, c.above_from-behind.ensures.behind, c.if-place-behind.false) in
    let item = c.in-Ok.item in
    let put : g.C.ChangeOf.put c.args.change.now ≡ Some item = sym c.item.ensures ∙ (ap option_copied c.in-Some.is ∙ ap Some (sym c.in-Ok.ensures)) in
    page_cut_made key_of g.met.By.KeyOf.total g.C.ChangeOf.changed g.C.ChangeOf.put c.cut_at.result c.args.change.now page c.cut_at.new.page.items place item c.args.ends
    (omega (arith, c.if-place-eq0.false)) c.requires.page is (subst (λ n. above_key key_of cmp key page ≡ drop n page) same above) put
    (λ end. elim c.else-not-ends.branch [
      | else-not-ends-via-then-not-ends+else-place-len w ↦ absurd (omega (arith, end, w.len-then-not-ends.ensures, w.if-place-len.false))
      | else-not-ends-via-else-not-ends w ↦ w.if-not-ends.false
    ])
    c.cut_at.ensures.cut
