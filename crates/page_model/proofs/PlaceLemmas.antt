-- The place of a key among items whose keys rise.
use Rattle.std.proofs.Common.{◌≡◌, refl, sym, ◌∙◌, ap, subst, inl, inr, List, [], ◌∷◌, ℕ, zero, suc, ◌+◌, ◌<◌, ◌≤◌, length, take, drop, get_or, arith}
use Rattle.std.specs.Prelude.{true, false}
use Rattle.std.specs.Cmp.{IsTotalOrder}
use Rattle.std.specs.List.{AllByRecursion as Each}
use Rattle.std.specs.List.Sorted.{IsPartitionedBy, IsPartitionPoint}
use Rattle.std.specs.Ordering.{is_gt, is_lt}
use Rattle.std.specs.declared.cmp.Ordering.{Ordering}
use Rattle.std.specs.declared.cmp.Ordering.TheVariants.{Less, Equal, Greater}
use Rattle.std.proofs.lemmas.Bool.{cases_eq}
use Rattle.std.proofs.lemmas.Cmp.{tied_back}
use Rattle.std.proofs.lemmas.List.{get_or-take, get_or-drop, length-take-le, length-drop}
use Rattle.std.proofs.lemmas.List.Elements.{All-from_recursion, recursion_from_All}
use Rattle.page_model.specs.Place.{IsPlaceOf}
use Rattle.page_model.specs.Rising.{IsRising}
use Rattle.page_model.proofs.Ordered.{above_from_below, below_from_above, less_from}
use Rattle.page_model.proofs.RisingLemmas.{each_weaker, rising_behind, rising_tail}

-- a part of a list that passes, by places and by recursion
pub passing_front : {X : Type 0} (P : X → Type 0) (xs : List X) (i : ℕ) → i ≤ length xs → ((k : ℕ) (d : X) → 0 ≤ k → k < i → P (get_or xs k d)) → Each P (take i xs)
passing_front P xs i within passes =
    recursion_from_All P (take i xs) (λ k d h. let before : k < i = omega (arith, length-take-le i xs within) in subst P (sym (get_or-take i xs k d before)) (passes k d (omega arith) before))

pub passing_back : {X : Type 0} (P : X → Type 0) (xs : List X) (i : ℕ) → ((k : ℕ) (d : X) → i ≤ k → k < length xs → P (get_or xs k d)) → Each P (drop i xs)
passing_back P xs i passes =
    recursion_from_All P (drop i xs) (λ k d h. subst P (sym (get_or-drop i xs k d)) (passes (i + k) d (omega arith) (omega (arith, length-drop i xs))))

module _ {T K : Type 0} (key_of : T → K) {cmp : K → K → Ordering} (order : IsTotalOrder cmp) where
  -- an earlier item is below a later one
  pub rising_places : (xs : List T) (i j : ℕ) (d : T) → i < j → j < length xs → IsRising key_of cmp xs → cmp (key_of (get_or xs i d)) (key_of (get_or xs j d)) ≡ Less
  rising_places [] i j d before within rising = absurd (omega arith)
  rising_places (x ∷ xs) zero zero d before within rising = absurd (omega arith)
  rising_places (x ∷ xs) zero (suc j) d before within rising = All-from_recursion _ xs (rising_behind key_of cmp x xs rising) j d (omega arith)
  rising_places (x ∷ xs) (suc i) zero d before within rising = absurd (omega arith)
  rising_places (x ∷ xs) (suc i) (suc j) d before within rising = rising_places xs i j d (omega arith) (omega arith) (rising_tail key_of cmp x xs rising)

  -- no item below a key comes behind one that isn't
  pub partitioned : (key : K) (xs : List T) → IsRising key_of cmp xs → IsPartitionedBy (λ x. is_lt (cmp (key_of x) key)) xs
  partitioned key xs rising i j d upto within passes = elim (cases_eq i j) [
    | inl same ↦ subst (λ n. is_lt (cmp (key_of (get_or xs n d)) key) ≡ true) (sym same) passes
    | inr other ↦ ap is_lt (order.trans _ _ _ (rising_places xs i j d (omega arith) within rising) (less_from _ passes))
  ]

  -- so the number of those below is the key's place
  pub place_from_partition : (key : K) (xs : List T) (place : ℕ) → place ≤ length xs
      → IsPartitionPoint (λ x. is_lt (cmp (key_of x) key) ≡ true) (λ x. is_lt (cmp (key_of x) key) ≡ false) xs place
      → IsPlaceOf key_of cmp key xs place
  place_from_partition key xs place within point =
      record {
        within = within;
        before = each_weaker _ _ (λ x. less_from _) (take place xs) (passing_front (λ x. is_lt (cmp (key_of x) key) ≡ true) xs place within point.0);
        behind = passing_back (λ x. is_lt (cmp (key_of x) key) ≡ false) xs place point.1;
      }

  -- the same where the key stands first
  turned : (x y : K) (o : Ordering) → cmp y x ≡ o → is_gt (cmp x y) ≡ is_lt o
  turned x y Less is = ap is_gt (above_from_below order y x is)
  turned x y Equal is = ap is_gt (tied_back order y x is)
  turned x y Greater is = ap is_gt (below_from_above order y x is)

  turns : (key : K) (x : T) → is_gt (cmp key (key_of x)) ≡ is_lt (cmp (key_of x) key)
  turns key x = turned key (key_of x) (cmp (key_of x) key) refl

  pub partitioned_turned : (key : K) (xs : List T) → IsRising key_of cmp xs → IsPartitionedBy (λ x. is_gt (cmp key (key_of x))) xs
  partitioned_turned key xs rising i j d upto within passes = turns key (get_or xs i d) ∙ partitioned key xs rising i j d upto within (sym (turns key (get_or xs j d)) ∙ passes)

  pub place_from_partition_turned : (key : K) (xs : List T) (place : ℕ) → place ≤ length xs
      → IsPartitionPoint (λ x. is_gt (cmp key (key_of x)) ≡ true) (λ x. is_gt (cmp key (key_of x)) ≡ false) xs place
      → IsPlaceOf key_of cmp key xs place
  place_from_partition_turned key xs place within point =
      place_from_partition key xs place within
      ((λ k d low high. sym (turns key (get_or xs k d)) ∙ point.0 k d low high), (λ k d low high. sym (turns key (get_or xs k d)) ∙ point.1 k d low high))
