-- What a change does to the relation of pairs, and what belongs to a value.
use Rattle.std.proofs.Common.{◌≡◌, refl, ◌∙◌, ap, List, Option, Some, None}
use Rattle.std.specs.Prelude.{Bool, true, false, cond, IfSome, is_some}
use Rattle.std.specs.Cmp.{IsTotalOrder}
use Rattle.std.specs.Ordering.{is_eq}
use Rattle.std.specs.declared.cmp.Ordering.{Ordering}
use Rattle.page_model.specs.Changed.{with_change}
use Rattle.page_model.specs.Found.{found}
use Rattle.page_model.proofs.FoundChanged.{found_changed}
use Rattle.ordered_pairs.specs.Has.{has, Sets}
use Rattle.ordered_pairs.specs.PairOrder.{pair_cmp, pair_total}

module _ {A B : Type 0} {left : A → A → Ordering} {right : B → B → Ordering} (lefts : IsTotalOrder left) (rights : IsTotalOrder right) where
  keyed : (pair : A × B) (among : Bool) → IfSome (cond among (Some pair) None) (λ item. item ≡ pair)
  keyed pair true = refl
  keyed pair false = tt

  shown : (pair : A × B) (among b : Bool) (o : Option (A × B)) → is_some (cond b (cond among (Some pair) None) o) ≡ cond b among (is_some o)
  shown pair true true o = refl
  shown pair false true o = refl
  shown pair among false o = refl

  -- a change of one pair changes the relation there alone
  pub sets_changed : (pair : A × B) (among : Bool) (before : List (A × B)) → Sets left right pair among before (with_change (λ item. item) (pair_cmp left right) pair (cond among (Some pair) None) before)
  unfolding has
  sets_changed pair among before one other =
      let itself : A × B → A × B = λ item. item in
      let put : A × B → Option (A × B) = λ item. Some item in
      ap is_some (found_changed itself (pair_total left right lefts rights) itself put (one, other) pair (cond among (Some pair) None) before (keyed pair among))
      ∙ shown pair among (is_eq (pair_cmp left right pair (one, other))) (found (λ item. item) (pair_cmp left right) (one, other) before)
