-- What one change does to what is kept at places.
use Rattle.std.proofs.Common.{◌≡◌, refl, sym, ◌∙◌, ap, subst, List, Option}
use Rattle.std.specs.Prelude.{Bool, true, false, cond, IfSome}
use Rattle.std.specs.Ordering.{is_eq}
use Rattle.page_model.specs.Changed.{with_change}
use Rattle.page_model.specs.Found.{found}
use Rattle.page_model.proofs.FoundChanged.{found_changed}
use Rattle.view_deltas.specs.Entries.{PutsAt, item_of, kept_at}
use Rattle.view_deltas.specs.Place.{Place, place_cmp}
use Rattle.view_deltas.specs.PlaceOrder.{place_total}

module _ {T : Type 0} where
  -- the place of an entry
  abbrev pub place_of : Place × T → Place
  place_of entry = entry.0

  chosen : (b : Bool) (put old : Option (Place × T)) → item_of (cond b put old) ≡ cond b (item_of put) (item_of old)
  chosen true put old = refl
  chosen false put old = refl

  pub puts_changed : (place : Place) (put : Option (Place × T)) (before : List (Place × T)) → IfSome put (λ entry. entry.0 ≡ place)
      → PutsAt place (item_of put) before (with_change place_of place_cmp place put before)
  unfolding kept_at
  puts_changed place put before keyed other =
      let given : Option (Place × T) → Option (Place × T) = λ it. it in
      let at : Option (Place × T) → Place = λ it. place in
      ap item_of (found_changed place_of place_total at given other place put before keyed)
      ∙ chosen (is_eq (place_cmp place other)) put (found place_of place_cmp other before)

  -- what is put behind its place is kept there
  pub puts_kept : (place : Place) (item : Option T) (entry : Option (Place × T)) (inside before after : List (Place × T)) → item_of entry ≡ item → IfSome entry (λ it. it.0 ≡ place)
      → inside ≡ before → after ≡ with_change place_of place_cmp place entry inside → PutsAt place item before after
  puts_kept place item entry inside before after given placed is changed =
      let put : PutsAt place (item_of entry) inside after = subst (λ (new : List (Place × T)). PutsAt place (item_of entry) inside new) (sym changed) (puts_changed place entry inside placed) in
      let of_item : PutsAt place item inside after = subst (λ (o : Option T). PutsAt place o inside after) given put in
      subst (λ (old : List (Place × T)). PutsAt place item old after) is of_item
