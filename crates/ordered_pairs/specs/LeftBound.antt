-- Bounds among pairs, by their left sides.
use Rattle.std.specs.Prelude.{◌≡◌, Bool, true, not}
use Rattle.std.proofs.Common.{refl, sym, ◌∙◌, ap}
use Rattle.std.specs.Cmp.{IsTotalOrder}
use Rattle.std.specs.Ordering.{is_gt, is_lt, ordering_then}
use Rattle.std.specs.declared.cmp.Ordering.{Ordering}
use Rattle.std.specs.declared.cmp.Ordering.TheVariants.{Less, Equal, Greater}
use Rattle.std.proofs.lemmas.Cmp.{alike_right}
use Rattle.page_model.specs.Bound.{IsMonotone}
use Rattle.page_model.proofs.Ordered.{less_from}
use Rattle.ordered_pairs.specs.PairOrder.{pair_cmp}

-- a pair whose left side is below a value
abbrev pub is_before : {A B : Type 0} → (A → A → Ordering) → A → A × B → Bool
is_before cmp left pair = is_lt (cmp pair.0 left)

-- or is not above it
abbrev pub is_upto : {A B : Type 0} → (A → A → Ordering) → A → A × B → Bool
is_upto cmp left pair = not (is_gt (cmp pair.0 left))

module _ {A B : Type 0} (cmp : A → A → Ordering) (right : B → B → Ordering) (order : IsTotalOrder cmp) (left : A) where
  before_by : (one other : A) (o p : Ordering) → cmp one other ≡ o → ordering_then o p ≡ Less → is_lt (cmp other left) ≡ true → is_lt (cmp one left) ≡ true
  before_by one other Less p is less below = ap is_lt (order.trans one other left is (less_from _ below))
  before_by one other Equal p is less below = ap is_lt (order.congr one other left is) ∙ below
  before_by one other Greater p is less below = cc

  pub before_monotone : IsMonotone (λ pair. pair) (pair_cmp cmp right) (is_before cmp left)
  before_monotone one other less below = before_by one.0 other.0 (cmp one.0 other.0) (right one.1 other.1) refl less below

  upto_from : (one other : A) (o : Ordering) → cmp other left ≡ o → cmp one other ≡ Less → not (is_gt o) ≡ true → not (is_gt (cmp one left)) ≡ true
  upto_from one other Less is less upto = ap (λ o. not (is_gt o)) (order.trans one other left less is)
  upto_from one other Equal is less upto = ap (λ o. not (is_gt o)) (sym (alike_right order other left one is) ∙ less)
  upto_from one other Greater is less upto = cc

  upto_by : (one other : A) (o p : Ordering) → cmp one other ≡ o → ordering_then o p ≡ Less → not (is_gt (cmp other left)) ≡ true → not (is_gt (cmp one left)) ≡ true
  upto_by one other Less p is less upto = upto_from one other (cmp other left) refl is upto
  upto_by one other Equal p is less upto = ap (λ o. not (is_gt o)) (order.congr one other left is) ∙ upto
  upto_by one other Greater p is less upto = cc

  pub upto_monotone : IsMonotone (λ pair. pair) (pair_cmp cmp right) (is_upto cmp left)
  upto_monotone one other less upto = upto_by one.0 other.0 (cmp one.0 other.0) (right one.1 other.1) refl less upto
