-- What belongs to a value.
use Rattle.std.specs.Prelude.{List, filter, map}
use Rattle.std.specs.Ordering.{is_eq}
use Rattle.std.specs.declared.cmp.Ordering.{Ordering}

-- the right sides of the pairs that have it on the left, in their order
unfoldable pub rights_of : {A B : Type 0} → (A → A → Ordering) → List (A × B) → A → List B
rights_of left pairs one = map (λ pair. pair.1) (filter (λ pair. is_eq (left pair.0 one)) pairs)
