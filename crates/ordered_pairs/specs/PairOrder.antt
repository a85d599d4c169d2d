-- The order of pairs, and bounds among them.
use Rattle.std.specs.Cmp.{IsTotalOrder, on_total, then_total}
use Rattle.std.specs.Ordering.{ordering_then}
use Rattle.std.specs.declared.cmp.Ordering.{Ordering}

-- by the left side, then by the right one
abbrev pub pair_cmp : {A B : Type 0} → (A → A → Ordering) → (B → B → Ordering) → A × B → A × B → Ordering
pair_cmp left right one other = ordering_then (left one.0 other.0) (right one.1 other.1)

pub pair_total : {A B : Type 0} (left : A → A → Ordering) (right : B → B → Ordering) → IsTotalOrder left → IsTotalOrder right → IsTotalOrder (pair_cmp left right)
pair_total {A} {B} left right lefts rights = then_total (on_total (λ (pair : A × B). pair.0) lefts) (on_total (λ (pair : A × B). pair.1) rights)
