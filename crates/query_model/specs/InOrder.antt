-- Rows that are put in an order.
use Rattle.std.specs.Prelude.{◌≡◌, ℕ, ◌<◌, List, Bool, false, Some, slice_get, IsPermutation}
use Rattle.std.specs.List.Sorted.{IsStableBy}
use Rattle.own_model.specs.Db.{Row}

-- The same rows, each as often, so that none stands behind one that it comes before. Rows of which neither comes before the
-- other stand as they stood.
pub record ArePutInOrder (before : Row → Row → Bool) (rows ordered : List Row) : Type 0 where
  pub same_rows : IsPermutation rows ordered
  pub in_order : (place behind : ℕ) (row later : Row) → place < behind → slice_get ordered place ≡ Some row → slice_get ordered behind ≡ Some later
      → before later row ≡ false
  pub stable : IsStableBy before rows ordered
