-- Where a key stands among items.
use Rattle.std.specs.Prelude.{◌≡◌, ◌≤◌, ℕ, List, false, length, take, drop}
use Rattle.std.specs.List.{AllByRecursion}
use Rattle.std.specs.Ordering.{is_lt}
use Rattle.std.specs.declared.cmp.Ordering.{Ordering}
use Rattle.std.specs.declared.cmp.Ordering.TheVariants.{Less}

-- the items before this place are below the key, and those from it on are not
pub record IsPlaceOf {T K : Type 0} (key_of : T → K) (cmp : K → K → Ordering) (key : K) (items : List T) (place : ℕ) : Type 0 where
  pub within : place ≤ length items
  pub before : AllByRecursion (λ item. cmp (key_of item) key ≡ Less) (take place items)
  pub behind : AllByRecursion (λ item. is_lt (cmp (key_of item) key) ≡ false) (drop place items)
