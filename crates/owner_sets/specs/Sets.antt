-- Sets of data subjects, one for each row of a store.
use Rattle.std.specs.Prelude.{◌≡◌, ℕ, List, [], None, Some, map, slice_get, slice_index_or}
use Rattle.own_base.specs.declared.row_name.RowName.{RowName}
use Rattle.own_base.specs.declared.row_name.Subject.{Subject}
use Rattle.own_model.specs.declared.schema.TableDef.{TableDef}
use Rattle.own_model.specs.Db.{Db, Row}
use Rattle.own_model.specs.Stored.{rows_at}
use Rattle.subject_model.specs.Named.{name_of}

-- by table, then by the row's place in it
abbrev pub Sets : Type 0
Sets = List (List (List Subject))

-- the set of the row at a place of a table; empty where there is none
abbrev pub set_at : Sets → ℕ → ℕ → List Subject
set_at sets table place = slice_index_or (slice_index_or sets table []) place []

-- what contracts see: who owns each row, and who reaches it
pub record OwnerSetsSeen : Type 0 where
  pub owners : Sets
  pub reach : Sets

-- a row's name as a subject
abbrev pub as_subject : RowName → Subject
as_subject name = record { 0 = name }

-- each row of a table has its set: the subjects that are listed for the row's name; a place without a row has none
pub record AreSetsOfTable (db : Db) (listed : RowName → List RowName) (table : ℕ) (sets : List (List Subject)) : Type 0 where
  pub at : (place : ℕ) (definition : TableDef) (row : Row) → slice_get db.schema.tables table ≡ Some definition → slice_get (rows_at db.rows table) place ≡ Some row
      → slice_index_or sets place [] ≡ map as_subject (listed (name_of table definition row))
  pub none : (place : ℕ) → slice_get (rows_at db.rows table) place ≡ None → slice_index_or sets place [] ≡ []

-- and so has each row of each table
pub record AreSetsOf (db : Db) (listed : RowName → List RowName) (sets : Sets) : Type 0 where
  pub each : (table : ℕ) → AreSetsOfTable db listed table (slice_index_or sets table [])
