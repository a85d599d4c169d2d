-- Items around a key's place.
use Rattle.std.proofs.Common.{◌≡◌, refl, sym, ap, subst, List, [], ◌∷◌, ℕ, zero, suc, take, drop, Some, None}
use Rattle.std.specs.Prelude.{true, false, slice_get}
use Rattle.std.specs.Cmp.{IsTotalOrder}
use Rattle.std.specs.List.{AllByRecursion as Each}
use Rattle.std.specs.Ordering.{is_eq, is_gt, is_lt}
use Rattle.std.specs.declared.cmp.Ordering.{Ordering}
use Rattle.std.specs.declared.cmp.Ordering.TheVariants.{Less, Equal, Greater}
use Rattle.page_model.specs.Changed.{above_key, below_key}
use Rattle.page_model.specs.Place.{IsPlaceOf}
use Rattle.page_model.specs.Rising.{IsRising}
use Rattle.page_model.proofs.ChangedLemmas.{filter_all, filter_none}
use Rattle.page_model.proofs.Ordered.{equal_from, greater_from, tied_above}
use Rattle.page_model.proofs.RisingLemmas.{each_weaker, rising_behind, rising_tail}

module _ {T K : Type 0} (key_of : T → K) {cmp : K → K → Ordering} (order : IsTotalOrder cmp) where
  before_place : (key : K) (xs : List T) (place : ℕ) → Each (λ x. cmp (key_of x) key ≡ Less) (take place xs) → Each (λ x. is_lt (cmp (key_of x) key) ≡ false) (drop place xs)
      → below_key key_of cmp key xs ≡ take place xs
  before_place key xs zero before behind = filter_none _ xs behind
  before_place key [] (suc place) before behind = refl
  before_place key (x ∷ xs) (suc place) before behind = rw (before.0, before_place key xs place before.1 behind) refl

  -- what is below the key stands before its place
  pub below_is : (key : K) (xs : List T) (place : ℕ) → IsPlaceOf key_of cmp key xs place → below_key key_of cmp key xs ≡ take place xs
  below_is key xs place is = before_place key xs place is.before is.behind

  -- all above the first are above the key
  above_all : (key : K) (x : T) (xs : List T) → is_lt (cmp (key_of x) key) ≡ false → IsRising key_of cmp (x ∷ xs) → Each (λ y. is_gt (cmp (key_of y) key) ≡ true) xs
  above_all key x xs upto rising = each_weaker _ _ (λ y less. ap is_gt (tied_above order (key_of x) (key_of y) key upto less)) xs (rising_behind key_of cmp x xs rising)

  above_none_from : (key : K) (xs : List T) (place : ℕ) → Each (λ x. cmp (key_of x) key ≡ Less) (take place xs) → slice_get xs place ≡ None → above_key key_of cmp key xs ≡ drop place xs
  above_none_from key [] zero before none = refl
  above_none_from key [] (suc place) before none = refl
  above_none_from key (x ∷ xs) zero before none = cc
  above_none_from key (x ∷ xs) (suc place) before none = rw before.0 (above_none_from key xs place before.1 none)

  above_here_from : (key : K) (xs : List T) (place : ℕ) (x : T) → Each (λ y. cmp (key_of y) key ≡ Less) (take place xs) → IsRising key_of cmp xs → slice_get xs place ≡ Some x → is_eq (cmp (key_of x) key) ≡ true
      → above_key key_of cmp key xs ≡ drop (suc place) xs
  above_here_from key [] place x before rising is equal = cc
  above_here_from key (y ∷ ys) zero x before rising is equal =
      let same : y ≡ x = cc in
      let here : cmp (key_of y) key ≡ Equal = equal_from _ (subst (λ z. is_eq (cmp (key_of z) key) ≡ true) (sym same) equal) in
      rw here (filter_all _ ys (above_all key y ys (ap is_lt here) rising))
  above_here_from key (y ∷ ys) (suc place) x before rising is equal = rw before.0 (above_here_from key ys place x before.1 (rising_tail key_of cmp y ys rising) is equal)

  above_other_from : (key : K) (xs : List T) (place : ℕ) (x : T) → Each (λ y. cmp (key_of y) key ≡ Less) (take place xs) → Each (λ y. is_lt (cmp (key_of y) key) ≡ false) (drop place xs) → IsRising key_of cmp xs
      → slice_get xs place ≡ Some x → is_eq (cmp (key_of x) key) ≡ false → above_key key_of cmp key xs ≡ drop place xs
  above_other_from key [] place x before behind rising is other = cc
  above_other_from key (y ∷ ys) zero x before behind rising is other =
      let same : y ≡ x = cc in
      let here : cmp (key_of y) key ≡ Greater = greater_from _ behind.0 (subst (λ z. is_eq (cmp (key_of z) key) ≡ false) (sym same) other) in
      rw here (ap (λ zs. y ∷ zs) (filter_all _ ys (above_all key y ys behind.0 rising)))
  above_other_from key (y ∷ ys) (suc place) x before behind rising is other = rw before.0 (above_other_from key ys place x before.1 behind (rising_tail key_of cmp y ys rising) is other)

  -- what is above the key stands behind its place, or behind the item there
  pub above_none : (key : K) (xs : List T) (place : ℕ) → IsPlaceOf key_of cmp key xs place → slice_get xs place ≡ None → above_key key_of cmp key xs ≡ drop place xs
  above_none key xs place is none = above_none_from key xs place is.before none

  pub above_here : (key : K) (xs : List T) (place : ℕ) (x : T) → IsPlaceOf key_of cmp key xs place → IsRising key_of cmp xs → slice_get xs place ≡ Some x → is_eq (cmp (key_of x) key) ≡ true → above_key key_of cmp key xs ≡ drop (suc place) xs
  above_here key xs place x is rising some equal = above_here_from key xs place x is.before rising some equal

  pub above_other : (key : K) (xs : List T) (place : ℕ) (x : T) → IsPlaceOf key_of cmp key xs place → IsRising key_of cmp xs → slice_get xs place ≡ Some x → is_eq (cmp (key_of x) key) ≡ false → above_key key_of cmp key xs ≡ drop place xs
  above_other key xs place x is rising some other = above_other_from key xs place x is.before is.behind rising some other
