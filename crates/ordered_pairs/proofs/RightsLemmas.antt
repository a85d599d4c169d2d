-- What belongs to a value is the one rising list of it.
use Rattle.std.proofs.Common.{◌≡◌, refl, sym, ◌∙◌, ap, List, [], ◌∷◌, map, Some, None}
use Rattle.std.specs.Prelude.{Bool, true, false, cond, ◌&&◌, filter, find, is_some}
use Rattle.std.specs.Cmp.{IsTotalOrder}
use Rattle.std.specs.List.{AllByRecursion as Each}
use Rattle.std.specs.List.Sorted.{IsStrictlySortedBy}
use Rattle.std.specs.Ordering.{is_eq, ordering_then}
use Rattle.std.specs.declared.cmp.Ordering.{Ordering}
use Rattle.std.specs.declared.cmp.Ordering.TheVariants.{Less, Equal, Greater}
use Rattle.std.proofs.lemmas.Cmp.{tied_back}
use Rattle.page_model.specs.Found.{found}
use Rattle.page_model.specs.Rising.{IsRising}
use Rattle.page_model.proofs.Ordered.{equal_from}
use Rattle.page_model.proofs.RisingLemmas.{each_mapped, rising_behind, rising_tail}
use Rattle.page_model.proofs.SameFound.{same_found}
use Rattle.ordered_pairs.specs.Has.{has}
use Rattle.ordered_pairs.specs.PairOrder.{pair_cmp}
use Rattle.ordered_pairs.specs.RightsOf.{rights_of}

-- a pair stands to another as the two sides do
both_eq : (o p : Ordering) → is_eq (ordering_then o p) ≡ (is_eq o && is_eq p)
both_eq Less p = refl
both_eq Equal p = refl
both_eq Greater p = refl

module _ {A B : Type 0} {left : A → A → Ordering} (right : B → B → Ordering) (lefts : IsTotalOrder left) where
  -- of two pairs of one value the lower has the lower right side
  lower : (one : A) (x y : A × B) → left x.0 one ≡ Equal → left y.0 one ≡ Equal → pair_cmp left right x y ≡ Less → right x.1 y.1 ≡ Less
  lower one x y here there less =
      let same : left x.0 y.0 ≡ Equal = lefts.congr x.0 one y.0 here ∙ tied_back lefts y.0 one there in
      ap (λ o. ordering_then o (right x.1 y.1)) (sym same) ∙ less

  each_lower : (one : A) (x : A × B) (pairs : List (A × B)) → left x.0 one ≡ Equal → Each (λ y. pair_cmp left right x y ≡ Less) pairs
      → Each (λ y. right x.1 y.1 ≡ Less) (filter (λ pair. is_eq (left pair.0 one)) pairs)
  each_lower one x [] here all = tt
  each_lower one x (y ∷ pairs) here all = by (is_eq (left y.0 one)) refl (each_lower one x pairs here all.1)
    where
      by : (b : Bool) → is_eq (left y.0 one) ≡ b → Each (λ y. right x.1 y.1 ≡ Less) (filter (λ pair. is_eq (left pair.0 one)) pairs)
          → Each (λ y. right x.1 y.1 ≡ Less) (cond b (y ∷ filter (λ pair. is_eq (left pair.0 one)) pairs) (filter (λ pair. is_eq (left pair.0 one)) pairs))
      by true tied more = (lower one x y here (equal_from _ tied) all.0, more)
      by false other more = more

  -- so they rise
  pub rights_rise : (pairs : List (A × B)) (one : A) → IsRising (λ pair. pair) (pair_cmp left right) pairs → IsRising (λ other. other) right (rights_of left pairs one)
  unfolding rights_of IsStrictlySortedBy
  rights_rise [] one rising = tt
  rights_rise (x ∷ pairs) one rising = by (is_eq (left x.0 one)) refl (rights_rise pairs one (rising_tail (λ pair. pair) (pair_cmp left right) x pairs rising))
    where
      by : (b : Bool) → is_eq (left x.0 one) ≡ b → IsRising (λ other. other) right (rights_of left pairs one)
          → IsRising (λ other. other) right (map (λ (pair : A × B). pair.1) (cond b (x ∷ filter (λ pair. is_eq (left pair.0 one)) pairs) (filter (λ pair. is_eq (left pair.0 one)) pairs)))
      by true tied more =
          let below = each_lower one x pairs (equal_from _ tied) (rising_behind (λ pair. pair) (pair_cmp left right) x pairs rising) in
          (each_mapped _ (λ other. other) (rights_of left pairs one) (each_mapped _ (λ (pair : A × B). pair.1) (filter (λ pair. is_eq (left pair.0 one)) pairs) below), more)
      by false other more = more

-- and a value is among them where its pair is
pub rights_have : {A B : Type 0} (left : A → A → Ordering) (right : B → B → Ordering) (pairs : List (A × B)) (one : A) (other : B)
    → is_some (found (λ each. each) right other (rights_of left pairs one)) ≡ has left right pairs one other
unfolding rights_of has found
rights_have left right [] one other = refl
rights_have {A} {B} left right (x ∷ pairs) one other = by (is_eq (left x.0 one)) (is_eq (right x.1 other)) refl refl (rights_have left right pairs one other)
  where
    by : (b c : Bool) → is_eq (left x.0 one) ≡ b → is_eq (right x.1 other) ≡ c
        → is_some (find (λ each. is_eq (right each other)) (map (λ (pair : A × B). pair.1) (filter (λ pair. is_eq (left pair.0 one)) pairs))) ≡ is_some (find (λ pair. is_eq (pair_cmp left right pair (one, other))) pairs)
        → is_some (find (λ each. is_eq (right each other)) (map (λ (pair : A × B). pair.1) (filter (λ pair. is_eq (left pair.0 one)) (x ∷ pairs)))) ≡ is_some (find (λ pair. is_eq (pair_cmp left right pair (one, other))) (x ∷ pairs))
    by true true here there more = rw (both_eq (left x.0 one) (right x.1 other), here, there) refl
    by true false here there more = rw (both_eq (left x.0 one) (right x.1 other), here, there) more
    by false c here there more = rw (both_eq (left x.0 one) (right x.1 other), here) more

module _ {B : Type 0} {right : B → B → Ordering} (rights : IsTotalOrder right) (exact : (one other : B) → right one other ≡ Equal → one ≡ other) where
  -- what is found under a value is the value
  found_itself : (other : B) (xs : List B) → found (λ each. each) right other xs ≡ cond (is_some (found (λ each. each) right other xs)) (Some other) None
  unfolding found
  found_itself other [] = refl
  found_itself other (x ∷ xs) = by (is_eq (right x other)) refl (found_itself other xs)
    where
      by : (b : Bool) → is_eq (right x other) ≡ b → find (λ each. is_eq (right each other)) xs ≡ cond (is_some (find (λ each. is_eq (right each other)) xs)) (Some other) None
          → cond b (Some x) (find (λ each. is_eq (right each other)) xs) ≡ cond (is_some (cond b (Some x) (find (λ each. is_eq (right each other)) xs))) (Some other) None
      by true tied more = ap Some (exact x other (equal_from _ tied))
      by false apart more = more

  -- two rising lists with the same members are one
  pub same_members : (xs ys : List B) → IsRising (λ each. each) right xs → IsRising (λ each. each) right ys
      → ((other : B) → is_some (found (λ each. each) right other xs) ≡ is_some (found (λ each. each) right other ys)) → xs ≡ ys
  same_members xs ys rising rises same =
      same_found (λ each. each) rights xs ys rising rises
      (λ other. found_itself other xs ∙ (ap (λ among. cond among (Some other) None) (same other) ∙ sym (found_itself other ys)))

module _ {A B : Type 0} {left : A → A → Ordering} {right : B → B → Ordering} (lefts : IsTotalOrder left) (rights : IsTotalOrder right) (exact : (one other : B) → right one other ≡ Equal → one ≡ other) where
  -- what belongs to a value is the rising list whose members the relation tells
  pub rights_are : (pairs : List (A × B)) (one : A) (xs : List B) → IsRising (λ pair. pair) (pair_cmp left right) pairs → IsRising (λ each. each) right xs
      → ((other : B) → is_some (found (λ each. each) right other xs) ≡ has left right pairs one other) → rights_of left pairs one ≡ xs
  rights_are pairs one xs rising rises members =
      same_members rights exact (rights_of left pairs one) xs (rights_rise right lefts pairs one rising) rises (λ other. rights_have left right pairs one other ∙ sym (members other))
