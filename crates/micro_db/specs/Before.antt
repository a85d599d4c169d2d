-- What is asked of the state before changes.
use Rattle.std.specs.Prelude.{◌≡◌, List}
use Rattle.own_base.specs.declared.change.Change.{Change}
use Rattle.own_model.specs.Db.{Db, IsOrdered}
use Rattle.state_model.specs.LeadTo.{LeadTo}
use Rattle.move_model.specs.declared.owner_move.OwnerMove.{OwnerMove}
use Rattle.move_model.specs.Moves.{AreMovesOf}
use Rattle.micro_db.specs.declared.micro.MicroDb.{MicroDb}
use Rattle.micro_db.specs.Kept.{StandsFor}

-- It is a database of the same schema from which the changes lead to the one after them, the moves are those of the two, and
-- what is kept stands for it.
pub record IsBefore (before after : Db) (moves : List OwnerMove) (changes : List Change) (micro : MicroDb) : Type 0 where
  pub ordered : IsOrdered before
  pub schema : after.schema ≡ before.schema
  pub leads : LeadTo before after changes
  pub moved : AreMovesOf before after moves
  pub stands : StandsFor before micro
