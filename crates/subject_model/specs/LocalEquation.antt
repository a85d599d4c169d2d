-- The local equation of owners and of reach: whose a row is, by the rows that its own edges join it to.
use Rattle.std.specs.Prelude.{◌≡◌, ◌⊎◌, ◌↔◌, Bool, true, IsFalse, IsTrue}
use Rattle.own_base.specs.declared.row_name.RowName.{RowName}
use Rattle.own_model.specs.declared.schema.Edge.{Edge}
use Rattle.own_model.specs.Db.{Db}
use Rattle.owner_model.specs.Joins.{Joins}
use Rattle.subject_model.specs.Named.{is_there}
use Rattle.subject_model.specs.Paths.{is_subject_row}

-- a row is a subject row, and is this subject
abbrev pub IsSubject : Db → RowName → RowName → Type 0
IsSubject db subject name = IsTrue (is_subject_row db name) × (name ≡ subject)

-- A subject has a row by an edge that counts where the edge joins the row to an upper row that is the subject, or that is
-- no subject row and that the subject has.
pub record HasByEdge (db : Db) (counts : Edge → Bool) (Has : RowName → RowName → Type 0) (subject name : RowName) : Type 0 where
  pub edge : Edge
  pub upper : RowName
  pub counted : IsTrue (counts edge)
  pub joined : Joins db name edge upper
  pub has : IsSubject db subject upper ⊎ (IsFalse (is_subject_row db upper) × Has subject upper)

-- At each row that is there a subject has the row exactly where it is the row, or has it by an edge that counts.
pub record MeetsLocalEquation (db : Db) (counts : Edge → Bool) (Has : RowName → RowName → Type 0) : Type 0 where
  pub local : (subject name : RowName) → IsTrue (is_there db name)
      → Has subject name ↔ (IsSubject db subject name ⊎ HasByEdge db counts Has subject name)

-- for owners the owner edges count
abbrev pub counts_for_owners : Edge → Bool
counts_for_owners edge = edge.owner

-- and for reach each edge does
abbrev pub counts_for_reach : Edge → Bool
counts_for_reach edge = true
