-- The item of a key among items whose keys rise.
use Rattle.std.proofs.Common.{◌≡◌, refl, sym, ◌∙◌, ap, subst, List, [], ◌∷◌, ◌++◌, ℕ, zero, suc, take, drop, Some, None}
use Rattle.std.specs.Prelude.{Bool, true, false, find, slice_get}
use Rattle.std.specs.Cmp.{IsTotalOrder}
use Rattle.std.specs.List.{AllByRecursion as Each}
use Rattle.std.specs.Ordering.{is_eq, is_gt, is_lt}
use Rattle.std.specs.declared.cmp.Ordering.{Ordering}
use Rattle.std.specs.declared.cmp.Ordering.TheVariants.{Less, Equal, Greater}
use Rattle.page_model.specs.Found.{found}
use Rattle.std.proofs.lemmas.Cmp.{tied_back}
use Rattle.page_model.specs.Page.{IsFirst, joined}
use Rattle.page_model.specs.Place.{IsPlaceOf}
use Rattle.page_model.specs.Rising.{IsRising}
use Rattle.page_model.proofs.Ordered.{above_from_below, below_from_above, below_other, greater_from, greater_from_gt}
use Rattle.page_model.proofs.RisingLemmas.{each_weaker, rising_back, rising_before, rising_behind, rising_tail}

-- a search passes over what fails
find_in_front : {X : Type 0} (p : X → Bool) (xs ys : List X) → Each (λ y. p y ≡ false) ys → find p (xs ++ ys) ≡ find p xs
find_in_front p [] [] fails = refl
find_in_front p [] (y ∷ ys) fails = rw fails.0 (find_in_front p [] ys fails.1)
find_in_front p (x ∷ xs) ys fails = rw (find_in_front p xs ys fails) refl

find_behind : {X : Type 0} (p : X → Bool) (xs ys : List X) → Each (λ x. p x ≡ false) xs → find p (xs ++ ys) ≡ find p ys
find_behind p [] ys fails = refl
find_behind p (x ∷ xs) ys fails = rw fails.0 (find_behind p xs ys fails.1)

module _ {T K : Type 0} (key_of : T → K) {cmp : K → K → Ordering} (order : IsTotalOrder cmp) where
  -- an item above the key, and those behind it, are not looked for
  pub found_before : (key : K) (xs : List T) (y : T) (ys : List T) → IsRising key_of cmp (xs ++ y ∷ ys) → cmp (key_of y) key ≡ Greater → found key_of cmp key (xs ++ y ∷ ys) ≡ found key_of cmp key xs
  unfolding found
  found_before key xs y ys rising above =
      let key_below = below_from_above order (key_of y) key above in
      find_in_front _ xs (y ∷ ys)
      (ap is_eq above, each_weaker _ _ (λ z behind. ap is_eq (above_from_below order key (key_of z) (order.trans key (key_of y) (key_of z) key_below behind))) ys (rising_behind key_of cmp y ys (rising_back key_of cmp xs (y ∷ ys) rising)))

  -- nor are those before an item that isn't above it
  pub found_behind : (key : K) (xs : List T) (y : T) (ys : List T) → IsRising key_of cmp (xs ++ y ∷ ys) → is_lt (cmp key (key_of y)) ≡ false → found key_of cmp key (xs ++ y ∷ ys) ≡ found key_of cmp key (y ∷ ys)
  unfolding found
  found_behind key xs y ys rising upto =
      find_behind _ xs (y ∷ ys) (each_weaker _ _ (λ x before. ap is_eq (below_other order (key_of x) key (key_of y) before upto)) xs (rising_before key_of cmp xs y ys rising))

  -- at the key's place stands its item, or there is none
  at_place : (key : K) (xs : List T) (place : ℕ) → Each (λ x. cmp (key_of x) key ≡ Less) (take place xs) → found key_of cmp key xs ≡ found key_of cmp key (drop place xs)
  unfolding found
  at_place key xs zero before = refl
  at_place key [] (suc place) before = refl
  at_place key (x ∷ xs) (suc place) before = rw before.0 (at_place key xs place before.1)

  from_place : (xs : List T) (place : ℕ) (x : T) → slice_get xs place ≡ Some x → (rest : List T) × (drop place xs ≡ x ∷ rest)
  from_place [] place x is = cc
  from_place (y ∷ ys) zero x is = (ys, cc)
  from_place (y ∷ ys) (suc place) x is = from_place ys place x is

  past_place : (xs : List T) (place : ℕ) → slice_get xs place ≡ None → drop place xs ≡ []
  past_place [] zero is = refl
  past_place [] (suc place) is = refl
  past_place (y ∷ ys) zero is = cc
  past_place (y ∷ ys) (suc place) is = past_place ys place is

  pub found_none : (key : K) (xs : List T) (place : ℕ) → IsPlaceOf key_of cmp key xs place → slice_get xs place ≡ None → found key_of cmp key xs ≡ None
  unfolding found
  found_none key xs place is none = at_place key xs place is.before ∙ rw (past_place xs place none) refl

  pub found_here : (key : K) (xs : List T) (place : ℕ) (x : T) → IsPlaceOf key_of cmp key xs place → slice_get xs place ≡ Some x → is_eq (cmp (key_of x) key) ≡ true → found key_of cmp key xs ≡ Some x
  unfolding found
  found_here key xs place x is some equal =
      let from = from_place xs place x some in
      at_place key xs place is.before ∙ (ap (found key_of cmp key) from.1 ∙ rw equal refl)

  drop_rising : (xs : List T) (place : ℕ) → IsRising key_of cmp xs → IsRising key_of cmp (drop place xs)
  drop_rising [] zero rising = rising
  drop_rising [] (suc place) rising = rising
  drop_rising (x ∷ xs) zero rising = rising
  drop_rising (x ∷ xs) (suc place) rising = drop_rising xs place (rising_tail key_of cmp x xs rising)

  pub found_other : (key : K) (xs : List T) (place : ℕ) (x : T) → IsRising key_of cmp xs → IsPlaceOf key_of cmp key xs place → slice_get xs place ≡ Some x → is_eq (cmp (key_of x) key) ≡ false → found key_of cmp key xs ≡ None
  unfolding found
  found_other key xs place x rising is some other =
      let from = from_place xs place x some in
      let behind : Each (λ y. is_lt (cmp (key_of y) key) ≡ false) (x ∷ from.0) = subst (Each (λ y. is_lt (cmp (key_of y) key) ≡ false)) from.1 is.behind in
      let rises : IsRising key_of cmp (x ∷ from.0) = subst (IsRising key_of cmp) from.1 (drop_rising xs place rising) in
      at_place key xs place is.before ∙ (ap (found key_of cmp key) from.1 ∙ found_before key [] x from.0 rises (greater_from (cmp (key_of x) key) behind.0 other))

  not_below_from : (x y : K) (o : Ordering) → cmp x y ≡ o → is_gt o ≡ false → is_lt (cmp y x) ≡ false
  not_below_from x y Less is upto = ap is_lt (above_from_below order x y is)
  not_below_from x y Equal is upto = ap is_lt (tied_back order x y is)
  not_below_from x y Greater is upto = cc

  -- a key is looked for in front of pages that begin above it, and else among them
  pub found_in_front : (key : K) (all left : List T) (first : T) (pages : List (List T)) → all ≡ left ++ joined pages → IsFirst first pages → IsRising key_of cmp all → is_gt (cmp (key_of first) key) ≡ true
      → found key_of cmp key all ≡ found key_of cmp key left
  found_in_front key all left first pages is begins rising above =
      let parts : all ≡ left ++ first ∷ (begins.others ++ joined begins.behind) = is ∙ ap (λ ps. left ++ joined ps) begins.is in
      ap (found key_of cmp key) parts ∙ found_before key left first (begins.others ++ joined begins.behind) (subst (IsRising key_of cmp) parts rising) (greater_from_gt _ above)

  pub found_in_back : (key : K) (all left : List T) (first : T) (pages : List (List T)) → all ≡ left ++ joined pages → IsFirst first pages → IsRising key_of cmp all → is_gt (cmp (key_of first) key) ≡ false
      → found key_of cmp key all ≡ found key_of cmp key (joined pages)
  found_in_back key all left first pages is begins rising upto =
      let starts : joined pages ≡ first ∷ (begins.others ++ joined begins.behind) = ap joined begins.is in
      let parts : all ≡ left ++ first ∷ (begins.others ++ joined begins.behind) = is ∙ ap (λ xs. left ++ xs) starts in
      ap (found key_of cmp key) parts ∙ (found_behind key left first (begins.others ++ joined begins.behind) (subst (IsRising key_of cmp) parts rising) (not_below_from (key_of first) key _ refl upto) ∙ ap (found key_of cmp key) (sym starts))
