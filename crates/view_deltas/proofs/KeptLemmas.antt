-- What is kept at places is one list, told by its look-ups.
use Rattle.std.proofs.Common.{◌≡◌, refl, sym, ◌∙◌, ap, List, [], ◌∷◌, ◌++◌, map, Option, Some, None}
use Rattle.std.specs.Prelude.{Bool, true, false, cond, find}
use Rattle.std.specs.List.{AllByRecursion as Each}
use Rattle.std.specs.List.Sorted.{IsStrictlySortedBy}
use Rattle.std.specs.Cmp.{IsTotalOrder}
use Rattle.std.specs.Option.{option_and_then, option_or}
use Rattle.std.specs.Ordering.{is_eq}
use Rattle.std.specs.declared.cmp.Ordering.{Ordering}
use Rattle.std.specs.declared.cmp.Ordering.TheVariants.{Less}
use Rattle.page_model.specs.Found.{found}
use Rattle.page_model.specs.Rising.{IsRising}
use Rattle.page_model.proofs.Ordered.{above_from_below, equal_from}
use Rattle.page_model.proofs.RisingLemmas.{each_weaker, rising_behind, each_map, each_mapped}
use Rattle.page_model.proofs.SameFound.{same_found}
use Rattle.view_deltas.specs.Entries.{item_of, kept_at}
use Rattle.view_deltas.specs.Place.{Place, place_cmp}
use Rattle.view_deltas.specs.PlaceOrder.{place_exact, place_total}
use Rattle.view_deltas.proofs.EntryLemmas.{place_of}

module _ {T K : Type 0} (key_of : T → K) {cmp : K → K → Ordering} (order : IsTotalOrder cmp) where
  above_none : (key : K) (xs : List T) → Each (λ x. cmp key (key_of x) ≡ Less) xs → found key_of cmp key xs ≡ None
  unfolding found
  above_none key [] above = refl
  above_none key (x ∷ xs) above = rw (above_from_below order key (key_of x) above.0) (above_none key xs above.1)

  -- no item behind the first has its key
  pub none_behind : (key : K) (x : T) (xs : List T) → is_eq (cmp (key_of x) key) ≡ true → IsRising key_of cmp (x ∷ xs) → found key_of cmp key xs ≡ None
  none_behind key x xs tied rising =
      above_none key xs (each_weaker _ _ (λ z less. sym (order.congr (key_of x) key (key_of z) (equal_from _ tied)) ∙ less) xs (rising_behind key_of cmp x xs rising))

-- what rises still does where each is made something by a rule that keeps the order
pub rising_map : {X Y K L : Type 0} (f : X → Y) (key_of : X → K) (cmp : K → K → Ordering) (made_of : Y → L) (made_cmp : L → L → Ordering)
    → ((x y : X) → cmp (key_of x) (key_of y) ≡ Less → made_cmp (made_of (f x)) (made_of (f y)) ≡ Less)
    → (xs : List X) → IsRising key_of cmp xs → IsRising made_of made_cmp (map f xs)
unfolding IsStrictlySortedBy
rising_map f key_of cmp made_of made_cmp keeps [] rising = tt
rising_map f key_of cmp made_of made_cmp keeps (x ∷ xs) rising = (
  each_mapped _ made_of (map f xs) (each_mapped _ f xs (each_weaker _ _ (λ y less. keeps x y less) xs (each_map _ key_of xs rising.0))),
  rising_map f key_of cmp made_of made_cmp keeps xs rising.1,
)

module _ {T : Type 0} where
  -- a place with what is kept there
  abbrev behind : Place → Option T → Option (Place × T)
  behind place item = option_and_then (λ it. Some (place, it)) item

  at_place : (place : Place) (entries : List (Place × T)) → found place_of place_cmp place entries ≡ behind place (kept_at entries place)
  unfolding found kept_at
  at_place place [] = refl
  at_place place (entry ∷ entries) = by (is_eq (place_cmp entry.0 place)) refl (at_place place entries)
    where
      by : (b : Bool) → is_eq (place_cmp entry.0 place) ≡ b → find (λ one. is_eq (place_cmp one.0 place)) entries ≡ behind place (item_of (find (λ one. is_eq (place_cmp one.0 place)) entries))
          → cond b (Some entry) (find (λ one. is_eq (place_cmp one.0 place)) entries) ≡ behind place (item_of (cond b (Some entry) (find (λ one. is_eq (place_cmp one.0 place)) entries)))
      by true tied more = ap (λ own. Some (own, entry.1)) (place_exact entry.0 place (equal_from _ tied))
      by false apart more = more

  -- two lists that rise are one where at each place the same is kept
  pub same_kept : (entries others : List (Place × T)) → IsRising place_of place_cmp entries → IsRising place_of place_cmp others → ((place : Place) → kept_at entries place ≡ kept_at others place) → entries ≡ others
  same_kept entries others rising rises same =
      same_found place_of place_total entries others rising rises
      (λ place. at_place place entries ∙ (ap (behind place) (same place) ∙ sym (at_place place others)))

  -- at a place is kept what the first list of two has there, else what the other has
  pub kept_append : (place : Place) (entries others : List (Place × T)) → kept_at (entries ++ others) place ≡ option_or (kept_at entries place) (kept_at others place)
  unfolding found kept_at
  kept_append place [] others = refl
  kept_append place (entry ∷ entries) others = by (is_eq (place_cmp entry.0 place)) (kept_append place entries others)
    where
      by : (b : Bool) → item_of (find (λ one. is_eq (place_cmp one.0 place)) (entries ++ others))
          ≡ option_or (item_of (find (λ one. is_eq (place_cmp one.0 place)) entries)) (item_of (find (λ one. is_eq (place_cmp one.0 place)) others))
          → item_of (cond b (Some entry) (find (λ one. is_eq (place_cmp one.0 place)) (entries ++ others)))
          ≡ option_or (item_of (cond b (Some entry) (find (λ one. is_eq (place_cmp one.0 place)) entries))) (item_of (find (λ one. is_eq (place_cmp one.0 place)) others))
      by true more = refl
      by false more = more

  -- of the first entry
  pub kept_first : (place : Place) (entry : Place × T) (entries : List (Place × T)) (b : Bool) → is_eq (place_cmp entry.0 place) ≡ b → kept_at (entry ∷ entries) place ≡ cond b (Some entry.1) (kept_at entries place)
  unfolding found kept_at
  kept_first place entry entries true tied = rw tied refl
  kept_first place entry entries false apart = rw apart refl
