use Rattle.std.proofs.Common.{◌≡◌, ◌≤◌, ◌∷◌, [], ◌++◌, ◌∙◌, refl, suc, ap, sym, subst, length, take, drop, take-append-drop, Some, None, arith}
use Rattle.std.specs.Prelude.{slice_set}
use Rattle.std.specs.Option.{option_copied, option_to_list}
use Rattle.std.specs.List.{insert}
use Rattle.std.proofs.lemmas.List.{length-set}
use Rattle.page_model.specs.Changed.{above_key}
use Rattle.page_tree.specs.InPlace.{InPlace}
use Rattle.page_tree.proofs.InPlaceLemmas.{insert_length, match_made, page_changed, set_parts}
use Rattle.page_tree.proofs.in_place.put_at.Goals as goal

-- The key's item is taken away.
pub returns-then-place-behind : goal.returns-then-place-behind
returns-then-place-behind g c =
    let key_of = g.By.KeyOf.key_of c.args.by in
    let cmp = g.By.KeyOf.key_cmp in
    let page = c.args.page.now.items in
    let place = c.args.place in
    let behind = c.above_from-behind.result in
    let key = g.C.ChangeOf.changed c.args.change.now in
    let some = c.requires.behind in
    let is = c.requires.place in
    let above : above_key key_of cmp key page ≡ drop behind page =
    subst (λ k. above_key key_of cmp k page ≡ drop behind page) c.key.ensures (subst (λ xs. above_key key_of cmp c.key.result.now xs ≡ drop behind xs) c.as_slice.ensures.value c.above_from-behind.ensures.above) in
    let none : g.C.ChangeOf.put c.args.change.now ≡ None = sym c.item.ensures ∙ ap option_copied c.in_default.is in
    let next : behind ≡ suc place = omega (arith, c.above_from-behind.ensures.near, c.if-place-behind.true) in
    let within : behind ≤ length page = subst (λ xs. behind ≤ length xs) c.as_slice.ensures.value c.above_from-behind.ensures.within in
    let parts : c.remove.new.self.items ≡ take place page ++ (option_to_list (g.C.ChangeOf.put c.args.change.now) ++ drop behind page) = rw (none, next) c.remove.ensures.items in
    let shorter = c.remove.ensures.len in
    page_changed key_of g.met.By.KeyOf.total g.C.ChangeOf.changed g.C.ChangeOf.put c.args.change.now page c.remove.new.self.items place behind some c.requires.page (omega (arith, shorter, c.requires.page.fits)) (omega (arith, shorter, within)) is above parts

-- There is no item to be taken away.
pub returns-else-place-behind : goal.returns-else-place-behind
returns-else-place-behind g c =
    let key_of = g.By.KeyOf.key_of c.args.by in
    let cmp = g.By.KeyOf.key_cmp in
    let page = c.args.page.now.items in
    let place = c.args.place in
    let behind = c.above_from-behind.result in
    let key = g.C.ChangeOf.changed c.args.change.now in
    let some = c.requires.behind in
    let is = c.requires.place in
    let above : above_key key_of cmp key page ≡ drop behind page =
    subst (λ k. above_key key_of cmp k page ≡ drop behind page) c.key.ensures (subst (λ xs. above_key key_of cmp c.key.result.now xs ≡ drop behind xs) c.as_slice.ensures.value c.above_from-behind.ensures.above) in
    let none : g.C.ChangeOf.put c.args.change.now ≡ None = sym c.item.ensures ∙ ap option_copied c.in_default.is in
    let same : behind ≡ place = omega (arith, c.above_from-behind.ensures.behind, c.if-place-behind.false) in
    let parts : page ≡ take place page ++ (option_to_list (g.C.ChangeOf.put c.args.change.now) ++ drop behind page) = rw (none, same) (sym (take-append-drop place page)) in
    page_changed key_of g.met.By.KeyOf.total g.C.ChangeOf.changed g.C.ChangeOf.put c.args.change.now page page place behind some c.requires.page c.requires.page.fits c.requires.page.some is above parts

-- An item takes the place of the key's item.
pub returns-then-place-behind-2 : goal.returns-then-place-behind-2
returns-then-place-behind-2 g c =
    let key_of = g.By.KeyOf.key_of c.args.by in
    let cmp = g.By.KeyOf.key_cmp in
    let page = c.args.page.now.items in
    let place = c.args.place in
    let behind = c.above_from-behind.result in
    let key = g.C.ChangeOf.changed c.args.change.now in
    let some = c.requires.behind in
    let is = c.requires.place in
    let above : above_key key_of cmp key page ≡ drop behind page =
    subst (λ k. above_key key_of cmp k page ≡ drop behind page) c.key.ensures (subst (λ xs. above_key key_of cmp c.key.result.now xs ≡ drop behind xs) c.as_slice.ensures.value c.above_from-behind.ensures.above) in
    let item = c.in-Ok.item in
    let put : g.C.ChangeOf.put c.args.change.now ≡ Some item = sym c.item.ensures ∙ (ap option_copied c.in-Some.is ∙ ap Some (sym c.in-Ok.ensures)) in
    let next : behind ≡ suc place = omega (arith, c.above_from-behind.ensures.near, c.if-place-behind-2.true) in
    let within : behind ≤ length page = subst (λ xs. behind ≤ length xs) c.as_slice.ensures.value c.above_from-behind.ensures.within in
    let long : length (slice_set page place item) ≡ length page = length-set page place item in
    let parts : slice_set page place item ≡ take place page ++ (option_to_list (g.C.ChangeOf.put c.args.change.now) ++ drop behind page) = rw (put, next) (set_parts page place item (omega (arith, within))) in
    page_changed key_of g.met.By.KeyOf.total g.C.ChangeOf.changed g.C.ChangeOf.put c.args.change.now page (slice_set page place item) place behind some c.requires.page (rw long c.requires.page.fits) (rw long c.requires.page.some) is above parts

-- An item comes between others, where there is room.
pub returns-then-len-room_of : goal.returns-then-len-room_of
returns-then-len-room_of g c =
    let key_of = g.By.KeyOf.key_of c.args.by in
    let cmp = g.By.KeyOf.key_cmp in
    let page = c.args.page.now.items in
    let place = c.args.place in
    let behind = c.above_from-behind.result in
    let key = g.C.ChangeOf.changed c.args.change.now in
    let some = c.requires.behind in
    let is = c.requires.place in
    let above : above_key key_of cmp key page ≡ drop behind page =
    subst (λ k. above_key key_of cmp k page ≡ drop behind page) c.key.ensures (subst (λ xs. above_key key_of cmp c.key.result.now xs ≡ drop behind xs) c.as_slice.ensures.value c.above_from-behind.ensures.above) in
    let item = c.in-Ok.item in
    let put : g.C.ChangeOf.put c.args.change.now ≡ Some item = sym c.item.ensures ∙ (ap option_copied c.in-Some.is ∙ ap Some (sym c.in-Ok.ensures)) in
    let same : behind ≡ place = omega (arith, c.above_from-behind.ensures.behind, c.if-place-behind-2.false) in
    let parts : insert page place item ≡ take place page ++ (option_to_list (g.C.ChangeOf.put c.args.change.now) ++ drop behind page) = rw (put, same) refl in
    let longer = insert_length page place item in
    match_made (λ new. InPlace key_of cmp g.C.ChangeOf.changed g.C.ChangeOf.put (page ∷ []) c.args.change.now (new ∷ [])) c.insert_at.result page c.insert_at.new.page.items (insert page place item) c.insert_at.ensures
    (page_changed key_of g.met.By.KeyOf.total g.C.ChangeOf.changed g.C.ChangeOf.put c.args.change.now page (insert page place item) place behind some c.requires.page (omega (arith, c.if-len-room_of.true, c.room_of.ensures.fits, c.len.ensures)) (omega arith) is above parts)
