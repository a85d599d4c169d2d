-- Pairs that are put one after another.
use Rattle.std.proofs.Common.{◌≡◌, ℕ, ◌+◌, ◌<◌, ◌≤◌, refl, sym, ◌∙◌, ap, subst, List, [], ◌∷◌, ◌++◌, length, take, get_or, Option, Some, None}
use Rattle.std.specs.Prelude.{Bool, true, false, cond, ◌&&◌, ◌||◌}
use Rattle.std.specs.Ordering.{is_eq, ordering_then}
use Rattle.std.specs.declared.cmp.Ordering.{Ordering}
use Rattle.std.specs.declared.cmp.Ordering.TheVariants.{Less, Equal, Greater}
use Rattle.std.proofs.lemmas.List.{take_all, take_more}
use Rattle.std.proofs.lemmas.List.Folds.{list_any-append}
use Rattle.own_base.specs.Key.{key_cmp}
use Rattle.own_base.specs.declared.value.Key.{Key}
use Rattle.own_model.specs.Db.{Row}
use Rattle.view_deltas.specs.Entries.{kept_at, PutsAt}
use Rattle.view_deltas.specs.Joined.{is_one, PutsPairs}
use Rattle.view_deltas.specs.Place.{Place, place_cmp}
use Rattle.view_deltas.specs.Sides.{place_of}
use Rattle.view_deltas.specs.declared.side.Side.{Side}
use Rattle.view_deltas.specs.declared.side.Side.TheVariants.{Left, Right}
use Rattle.view_deltas.proofs.KeyLemmas.{same_key}

both_eq : (o p : Ordering) → is_eq (ordering_then o p) ≡ (is_eq o && is_eq p)
both_eq Less p = refl
both_eq Equal p = refl
both_eq Greater p = refl

swapped : (b c : Bool) → (b && c) ≡ (c && b)
swapped true true = refl
swapped true false = refl
swapped false true = refl
swapped false false = refl

then_greater : (o : Ordering) → is_eq (ordering_then o Greater) ≡ false
then_greater Less = refl
then_greater Equal = refl
then_greater Greater = refl

-- places of pairs tie where both keys do, and no other place ties with one
place_tie : (side : Side) (own other one two : Key) → is_eq (place_cmp (place_of side own other) (place_of side one two)) ≡ (is_eq (key_cmp own one) && is_eq (key_cmp other two))
place_tie Left own other one two = both_eq (key_cmp own one) (key_cmp other two)
place_tie Right own other one two = both_eq (key_cmp other two) (key_cmp own one) ∙ swapped (is_eq (key_cmp other two)) (is_eq (key_cmp own one))

no_first : (side : Side) (own other : Key) (place : Option Key) → is_eq (place_cmp (place_of side own other) (None, place)) ≡ false
no_first Left own other place = refl
no_first Right own other place = refl

no_second : (side : Side) (own other : Key) (place : Option Key) → is_eq (place_cmp (place_of side own other) (place, None)) ≡ false
no_second Left own other None = refl
no_second Left own other (Some key) = then_greater (key_cmp own key)
no_second Right own other None = refl
no_second Right own other (Some key) = then_greater (key_cmp other key)

module _ (side : Side) (own : Key) (item : Key → Option Row) where
  -- at first none is put
  pub none_put : (entries : List (Place × Row)) → PutsPairs side own [] item entries entries
  none_put entries = record { pairs = λ one two. by one two (is_eq (key_cmp own one)); first = λ place. refl; second = λ place. refl }
    where
      by : (one two : Key) (b : Bool) → kept_at entries (place_of side one two) ≡ cond (b && false) (item two) (kept_at entries (place_of side one two))
      by one two true = refl
      by one two false = refl

  -- one more is put
  put_more : (front : List Key) (other : Key) (before middle after : List (Place × Row)) → PutsPairs side own front item before middle → PutsAt (place_of side own other) (item other) middle after
      → PutsPairs side own (front ++ other ∷ []) item before after
  put_more front other before middle after so_far put = record {
    pairs = pairs;
    first = λ place. put (None, place) ∙ (ap (λ b. cond b (item other) (kept_at middle (None, place))) (no_first side own other place) ∙ so_far.first place);
    second = λ place. put (place, None) ∙ (ap (λ b. cond b (item other) (kept_at middle (place, None))) (no_second side own other place) ∙ so_far.second place);
  }
    where
      old : Key → Key → Option Row
      old one two = kept_at before (place_of side one two)

      by : (one two : Key) (a b c : Bool) → is_eq (key_cmp other two) ≡ b → cond (a && b) (item other) (cond (a && c) (item two) (old one two)) ≡ cond (a && (c || (b || false))) (item two) (old one two)
      by one two true true true tied = ap item (same_key other two tied)
      by one two true true false tied = ap item (same_key other two tied)
      by one two true false true tied = refl
      by one two true false false tied = refl
      by one two false true c tied = refl
      by one two false false c tied = refl

      pairs : (one two : Key) → kept_at after (place_of side one two) ≡ cond (is_eq (key_cmp own one) && is_one (front ++ other ∷ []) two) (item two) (old one two)
      pairs one two =
          put (place_of side one two)
          ∙ (ap (λ b. cond b (item other) (kept_at middle (place_of side one two))) (place_tie side own other one two)
          ∙ (ap (cond (is_eq (key_cmp own one) && is_eq (key_cmp other two)) (item other)) (so_far.pairs one two)
          ∙ (by one two (is_eq (key_cmp own one)) (is_eq (key_cmp other two)) (is_one front two) refl
          ∙ ap (λ c. cond (is_eq (key_cmp own one) && c) (item two) (old one two)) (sym (list_any-append (λ key. is_eq (key_cmp key two)) front (other ∷ []))))))

  pub put_next : (others : List Key) (index : ℕ) (other : Key) (before middle after : List (Place × Row)) → index < length others → other ≡ get_or others index other
      → PutsPairs side own (take index others) item before middle → PutsAt (place_of side own other) (item other) middle after → PutsPairs side own (take (index + 1) others) item before after
  put_next others index other before middle after within is so_far put =
      let more : take (index + 1) others ≡ take index others ++ other ∷ [] = take_more others index other within ∙ ap (λ (key : Key). take index others ++ key ∷ []) (sym is) in
      subst (λ (front : List Key). PutsPairs side own front item before after) (sym more) (put_more (take index others) other before middle after so_far put)

  pub all_put : (others : List Key) (index : ℕ) (before after : List (Place × Row)) → length others ≤ index → PutsPairs side own (take index others) item before after → PutsPairs side own others item before after
  all_put others index before after past so_far = subst (λ (front : List Key). PutsPairs side own front item before after) (take_all index others past) so_far
