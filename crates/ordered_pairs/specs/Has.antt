-- The relation of pairs: which values belong to which.
use Rattle.std.specs.Prelude.{◌≡◌, List, Bool, is_some, if◌then◌else◌}
use Rattle.std.specs.Ordering.{is_eq}
use Rattle.std.specs.declared.cmp.Ordering.{Ordering}
use Rattle.page_model.specs.Found.{found}
use Rattle.ordered_pairs.specs.PairOrder.{pair_cmp}

-- whether a pair is among pairs
unfoldable pub has : {A B : Type 0} → (A → A → Ordering) → (B → B → Ordering) → List (A × B) → A → B → Bool
has left right pairs one other = is_some (found (λ pair. pair) (pair_cmp left right) (one, other) pairs)

-- one pair is among them afterwards, or isn't, and each other pair is where it was before
abbrev pub Sets : {A B : Type 0} → (A → A → Ordering) → (B → B → Ordering) → A × B → Bool → List (A × B) → List (A × B) → Type 0
Sets {A} {B} left right pair among before after =
    (one : A) (other : B) → has left right after one other ≡ (if is_eq (pair_cmp left right pair (one, other)) then among else has left right before one other)
