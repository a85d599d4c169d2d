-- Tables in a list, which may have some of them.
use Rattle.std.specs.Prelude.{◌≡◌, ℕ, List, Some, Contains, slice_get}
use Rattle.own_base.specs.declared.number.TableNo.{TableNo}
use Rattle.own_model.specs.declared.schema.Edge.{Edge}
use Rattle.owner_model.specs.GraphOrder.{StandsBefore}

-- a table stands somewhere in the list
pub record IsPlaced (order : List TableNo) (table : TableNo) : Type 0 where
  pub place : ℕ
  pub at_place : slice_get order place ≡ Some table

-- none stands at two places
pub record EachAtOnePlace (order : List TableNo) : Type 0 where
  pub same_place : (table : TableNo) (one two : ℕ) → slice_get order one ≡ Some table → slice_get order two ≡ Some table → one ≡ two

-- each edge from a table of the list leads to one that stands earlier
pub record IsUpward (edges : List Edge) (order : List TableNo) : Type 0 where
  pub earlier : (edge : Edge) → Contains edges edge → IsPlaced order edge.lower → StandsBefore order edge.upper edge.lower
