-- For each row of a store, by its table's number and its place, whether something is true of it.
use Rattle.std.specs.Prelude.{◌≡◌, ℕ, List, [], Bool, false, Some, slice_get, slice_index_or}
use Rattle.own_base.specs.declared.row_name.RowName.{RowName}
use Rattle.own_model.specs.declared.schema.TableDef.{TableDef}
use Rattle.own_model.specs.Db.{Db, Row}
use Rattle.own_model.specs.Stored.{rows_at}
use Rattle.subject_model.specs.Named.{name_of}

abbrev pub Flags : Type 0
Flags = List (List Bool)

-- the flag of the row at a place of a table; false where there is none
abbrev pub flag_at : Flags → ℕ → ℕ → Bool
flag_at flags table place = slice_index_or (slice_index_or flags table []) place false

-- each row of a table is flagged exactly where its name passes a test
pub record AreFlagsOfTable (db : Db) (test : RowName → Bool) (table : ℕ) (flags : List Bool) : Type 0 where
  pub at : (place : ℕ) (definition : TableDef) (row : Row) → slice_get db.schema.tables table ≡ Some definition → slice_get (rows_at db.rows table) place ≡ Some row
      → slice_index_or flags place false ≡ test (name_of table definition row)

-- and so is each row of each table
pub record AreFlagsOf (db : Db) (test : RowName → Bool) (flags : Flags) : Type 0 where
  pub each : (table : ℕ) → AreFlagsOfTable db test table (slice_index_or flags table [])
