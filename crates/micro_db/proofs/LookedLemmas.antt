-- The rows that are looked at.
use Rattle.std.proofs.Common.{◌≡◌, List, sym}
use Rattle.std.specs.Prelude.{Contains}
use Rattle.own_base.specs.declared.change.Change.{Change}
use Rattle.own_base.specs.declared.row_name.RowName.{RowName}
use Rattle.own_model.specs.Db.{Db}
use Rattle.owner_model.specs.Joins.{Joins}
use Rattle.std.proofs.Common.{subst}
use Rattle.state_model.specs.LeadTo.{LeadTo}
use Rattle.move_model.specs.declared.owner_move.OwnerMove.{OwnerMove}
use Rattle.move_model.specs.KeepsEdges.{KeepsEdges}
use Rattle.owner_index.specs.Adds.{Adds, ForSome}
use Rattle.owner_index.specs.Names.{AreTidied}
use Rattle.micro_db.specs.Looked.{AreLookedAt, IsBelowMoved}

-- those that changes touch, and with them those below rows that moved, in order
pub looked : (after : Db) (moves : List OwnerMove) (changes : List Change) (touched all names : List RowName)
    → ((before : Db) → after.schema ≡ before.schema → LeadTo before after changes → (name : RowName) → ¬ (Contains touched name) → KeepsEdges before after name)
    → Adds (ForSome (IsBelowMoved after) moves) touched all → AreTidied all names → AreLookedAt after moves changes names
looked after moves changes touched all names keeps adds are =
    record {
      touched = λ before schema leads name absent. keeps before schema leads name (λ there. absent ((are.same name).1 (adds.longer name there)));
      below = λ name absent edge upper joined moved among same.
          let here : Joins after name edge moved.name = subst (Joins after name edge) (sym same) joined in
          absent ((are.same name).1 (adds.has name (moved, (among, (edge, (joined.among, here))))));
    }
