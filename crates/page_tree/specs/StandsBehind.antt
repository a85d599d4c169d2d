-- A place with an item below a key right before it.
use Rattle.std.specs.Prelude.{◌≡◌, ◌<◌, ◌≤◌, ◌-◌, ℕ, List, length, get_or}
use Rattle.std.specs.declared.cmp.Ordering.{Ordering}
use Rattle.std.specs.declared.cmp.Ordering.TheVariants.{Less}

-- the item before the place has a key below this one
pub record StandsBehind {T K : Type 0} (key_of : T → K) (cmp : K → K → Ordering) (key : K) (items : List T) (place : ℕ) : Type 0 where
  pub some : 0 < place
  pub within : place ≤ length items
  pub before : T
  pub is : before ≡ get_or items (place - 1) before
  pub below : cmp (key_of before) key ≡ Less
