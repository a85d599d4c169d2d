-- By which edges a subject reaches each row of a store.
use Rattle.std.specs.Prelude.{◌≡◌, ℕ, List, [], None, Some, slice_get, slice_index_or}
use Rattle.own_base.specs.declared.number.EdgeNo.{EdgeNo}
use Rattle.own_base.specs.declared.row_name.RowName.{RowName}
use Rattle.own_model.specs.declared.schema.TableDef.{TableDef}
use Rattle.own_model.specs.Db.{Db, Row}
use Rattle.own_model.specs.Stored.{rows_at}
use Rattle.subject_model.specs.Named.{name_of}
use Rattle.subject_model.specs.Owners.{by}

-- by table, then by the row's place in it
abbrev pub EdgeLists : Type 0
EdgeLists = List (List (List EdgeNo))

-- the edges of the row at a place of a table; none where there is no row
abbrev pub edges_at : EdgeLists → ℕ → ℕ → List EdgeNo
edges_at lists table place = slice_index_or (slice_index_or lists table []) place []

-- each row of a table has the edges by which the subject reaches it; a place without a row has none
pub record AreEdgesOfTable (db : Db) (subject : RowName) (table : ℕ) (lists : List (List EdgeNo)) : Type 0 where
  pub at : (place : ℕ) (definition : TableDef) (row : Row) → slice_get db.schema.tables table ≡ Some definition → slice_get (rows_at db.rows table) place ≡ Some row
      → slice_index_or lists place [] ≡ by db subject (name_of table definition row)
  pub none : (place : ℕ) → slice_get (rows_at db.rows table) place ≡ None → slice_index_or lists place [] ≡ []

-- and so has each row of each table
pub record AreEdgesOf (db : Db) (subject : RowName) (lists : EdgeLists) : Type 0 where
  pub each : (table : ℕ) → AreEdgesOfTable db subject table (slice_index_or lists table [])
