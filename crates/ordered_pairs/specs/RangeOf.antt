-- Where the pairs of a value stand.
use Rattle.std.specs.Prelude.{◌≡◌, ◌≤◌, ℕ, List, drop, filter, length, take}
use Rattle.std.specs.Ordering.{is_eq}
use Rattle.std.specs.declared.cmp.Ordering.{Ordering}

-- those that have it on the left stand from one place on, up to another
pub record IsRangeOf {A B : Type 0} (left : A → A → Ordering) (pairs : List (A × B)) (one : A) (from upto : ℕ) : Type 0 where
  pub begins : from ≤ upto
  pub ends : upto ≤ length pairs
  pub are : filter (λ pair. is_eq (left pair.0 one)) pairs ≡ drop from (take upto pairs)
