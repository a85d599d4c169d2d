-- The rows that changes touch.
use Rattle.std.proofs.Common.{◌≡◌, List, [], inl, inr}
use Rattle.std.specs.Prelude.{Contains}
use Rattle.own_base.specs.declared.change.Change.{Change}
use Rattle.own_base.specs.declared.row_name.RowName.{RowName}
use Rattle.own_model.specs.declared.schema.Edge.{Edge}
use Rattle.own_model.specs.Db.{Db}
use Rattle.state_model.specs.LeadTo.{LeadTo}
use Rattle.move_model.specs.KeepsEdges.{KeepsEdges}
use Rattle.move_model.specs.Touches.{Touches, TouchesBy}
use Rattle.move_model.proofs.Untouched.{untouched_keeps}
use Rattle.owner_index.specs.Adds.{Adds, ForSome}

among_edges : (db : Db) (change : Change) (name : RowName) (edge : Edge) → TouchesBy db change name edge → Contains db.schema.edges edge
among_edges db change name edge (inl lower) = lower.leads.among
among_edges db change name edge (inr upper) = upper.leads.among

-- the row itself and those by the edges of the schema are all that a change touches
pub touches-end : (db : Db) (change : Change) (old new : List RowName) → Adds (λ name. change.name ≡ name) old new → Adds (ForSome (λ edge name. TouchesBy db change name edge) db.schema.edges) old new
    → Adds (Touches db change) old new
touches-end db change old new own others =
    record {
      longer = own.longer;
      has = λ name touches. elim touches [
        | inl is ↦ own.has name is
        | inr by ↦ others.has name (by.0, (among_edges db change name by.0 by.1, by.1))
      ];
    }

-- a row that isn't among those that are touched keeps its edges
pub untouched_keeps_edges : (db : Db) (changes : List Change) (names : List RowName) → Adds (ForSome (Touches db) changes) [] names
    → (before : Db) → db.schema ≡ before.schema → LeadTo before db changes → (name : RowName) → ¬ (Contains names name) → KeepsEdges before db name
untouched_keeps_edges db changes names adds before schema lead name absent =
    untouched_keeps before db changes schema lead name (record { none = λ change among touches. absent (adds.has name (change, (among, touches))) })
