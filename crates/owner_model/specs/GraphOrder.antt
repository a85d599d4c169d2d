-- The order of a graph.
use Rattle.std.specs.Prelude.{◌≡◌, ℕ, ◌<◌, List, Some, map, slice_get, IsPermutation}
use Rattle.std.specs.List.{AllByRecursion, range_with_len}
use Rattle.own_base.specs.declared.number.TableNo.{TableNo}
use Rattle.own_model.specs.declared.schema.Edge.{Edge}

-- one table stands in the list, and the other behind it
pub record StandsBefore (order : List TableNo) (first second : TableNo) : Type 0 where
  pub place : ℕ
  pub behind : ℕ
  pub earlier : place < behind
  pub at_place : slice_get order place ≡ Some first
  pub at_behind : slice_get order behind ≡ Some second

-- every table once, each edge from a table to one that stands earlier
pub record IsGraphOrder (tables : ℕ) (edges : List Edge) (order : List TableNo) : Type 0 where
  pub each_once : IsPermutation (range_with_len 0 tables) (map (λ table. table.0) order)
  pub upward : AllByRecursion (λ edge. StandsBefore order edge.upper edge.lower) edges
