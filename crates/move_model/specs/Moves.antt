-- Which subjects stand otherwise to which rows, of two databases.
use Rattle.std.specs.Prelude.{◌≡◌, ◌≢◌, ◌↔◌, List, Contains}
use Rattle.std.specs.List.Sorted.{IsStrictlySortedBy}
use Rattle.own_model.specs.Db.{Db}
use Rattle.move_model.specs.declared.owner_move.OwnerMove.{OwnerMove}
use Rattle.move_model.specs.MoveOrder.{move_cmp}
use Rattle.move_model.specs.Standing.{standing}

-- A move tells how its subject stands to its row before and after, and the two differ.
pub record IsMoveOf (before after : Db) (move : OwnerMove) : Type 0 where
  pub was : move.before ≡ standing before move.subject.0 move.name
  pub is : move.after ≡ standing after move.subject.0 move.name
  pub differ : move.before ≢ move.after

-- These are all the moves and no others, by row, then by subject, each once.
pub record AreMovesOf (before after : Db) (moves : List OwnerMove) : Type 0 where
  pub told : (move : OwnerMove) → Contains moves move ↔ IsMoveOf before after move
  pub rise : IsStrictlySortedBy move_cmp moves
