-- The rows of which copies may have to be renewed, though how their subjects stand to them stays.
use Rattle.std.specs.Prelude.{◌≡◌, List, Contains}
use Rattle.own_base.specs.declared.change.Change.{Change}
use Rattle.own_base.specs.declared.row_name.RowName.{RowName}
use Rattle.own_model.specs.declared.schema.Edge.{Edge}
use Rattle.own_model.specs.Db.{Db}
use Rattle.owner_model.specs.Joins.{Joins}
use Rattle.state_model.specs.LeadTo.{LeadTo}
use Rattle.move_model.specs.declared.owner_move.OwnerMove.{OwnerMove}
use Rattle.move_model.specs.KeepsEdges.{KeepsEdges}
use Rattle.owner_index.specs.Adds.{ForSome}

-- a row right below one that moved
abbrev pub IsBelowMoved : Db → OwnerMove → RowName → Type 0
IsBelowMoved db moved lower = ForSome (λ (edge : Edge) (name : RowName). Joins db name edge moved.name) db.schema.edges lower

-- A row that isn't among them keeps its edges, and no row right above it moved.
pub record AreLookedAt (after : Db) (moves : List OwnerMove) (changes : List Change) (names : List RowName) : Type 0 where
  pub touched : (before : Db) → after.schema ≡ before.schema → LeadTo before after changes → (name : RowName) → ¬ (Contains names name) → KeepsEdges before after name
  pub below : (name : RowName) → ¬ (Contains names name) → (edge : Edge) (upper : RowName) → Joins after name edge upper → (moved : OwnerMove) → Contains moves moved → ¬ (moved.name ≡ upper)
