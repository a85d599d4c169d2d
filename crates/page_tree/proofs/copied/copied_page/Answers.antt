use Rattle.std.proofs.Common.{◌≡◌, ◌<◌, ◌≤◌, ◌∷◌, [], List, sym, subst, length, arith}
use Rattle.std.specs.Prelude.{true}
use Rattle.page_model.specs.Place.{IsPlaceOf}
use Rattle.page_model.specs.declared.TheConstants.{PAGE_ITEMS}
use Rattle.page_tree.specs.PutWithin.{PutWithin}
use Rattle.page_tree.proofs.InPlaceLemmas.{page_copied}
use Rattle.page_tree.proofs.WithinLemmas.{page_within}
use Rattle.page_tree.proofs.copied.copied_page.Goals.{else-not-ends-via-then-not-ends+else-place-page, else-not-ends-via-else-not-ends}
use Rattle.page_tree.proofs.copied.copied_page.Goals as goal

-- The page shows that the change falls into it.
pub returns : goal.returns
returns g c =
    let key_of = g.By.KeyOf.key_of c.args.by in
    let cmp = g.By.KeyOf.key_cmp in
    let changed = g.C.ChangeOf.changed in
    let put = g.C.ChangeOf.put in
    let change = c.args.change.now in
    let page = c.args.page.now in
    let place = c.place_of-place.result in
    let made = c.in_ok-made.made.items.items in
    let is : IsPlaceOf key_of cmp (changed change) page place = subst (λ key. IsPlaceOf key_of cmp key page place) c.key.ensures c.place_of-place.ensures in
    let some : 0 < place = omega (arith, c.if-place-eq0.false) in
    let filled : 0 < length made = omega (arith, c.if-count-eq0.false, c.len-count.ensures) in
    let fits : length made ≤ PAGE_ITEMS = omega (arith, c.if-count-gt-PAGE_ITEMS.false, c.len-count.ensures) in
    let here = page_copied key_of g.met.By.KeyOf.total changed put change page made place some fits filled is c.in_ok-made.ensures in
    let ends : place ≡ length page → c.args.ends ≡ true = λ end. elim c.else-not-ends.branch [
      | else-not-ends-via-then-not-ends+else-place-page w ↦ absurd (omega (arith, end, w.if-place-page.false))
      | else-not-ends-via-else-not-ends w ↦ w.if-not-ends.false
    ] in
    subst (λ (pages : List (List g.row.T.Denot)). PutWithin key_of cmp changed put (page ∷ []) change pages c.args.ends) (sym c.in_ok-leaf.ensures)
    (page_within key_of changed put page (made ∷ []) change place c.args.ends some c.requires.page.some is ends here)
