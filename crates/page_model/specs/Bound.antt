-- Items on the two sides of a bound.
use Rattle.std.specs.Prelude.{◌≡◌, ◌≤◌, ℕ, List, Bool, true, false, length, take, drop}
use Rattle.std.specs.List.{AllByRecursion}
use Rattle.std.specs.declared.cmp.Ordering.{Ordering}
use Rattle.std.specs.declared.cmp.Ordering.TheVariants.{Less}

-- what has a lower key than an item that stands below a bound stands below it too
abbrev pub IsMonotone : {T K : Type 0} → (T → K) → (K → K → Ordering) → (T → Bool) → Type 0
IsMonotone {T} key_of cmp below = (x y : T) → cmp (key_of x) (key_of y) ≡ Less → below y ≡ true → below x ≡ true

-- the items before this place stand below the bound, and those from it on do not
pub record Divides {T : Type 0} (below : T → Bool) (items : List T) (place : ℕ) : Type 0 where
  pub within : place ≤ length items
  pub before : AllByRecursion (λ item. below item ≡ true) (take place items)
  pub behind : AllByRecursion (λ item. below item ≡ false) (drop place items)
