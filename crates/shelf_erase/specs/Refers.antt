-- Which rows refer to a row.
use Rattle.std.specs.Prelude.{◌≡◌, ℕ, Bool, true, false, ◌==◌, Some, slice_get}
use Rattle.std.specs.Option.{option_map_or}
use Rattle.own_base.specs.declared.row_name.RowName.{RowName}
use Rattle.own_model.specs.declared.schema.Column.{Column}
use Rattle.own_model.specs.declared.schema.TableDef.{TableDef}
use Rattle.own_model.specs.Db.{Db}
use Rattle.owner_model.specs.Joins.{value_at, value_of}
use Rattle.subject_model.specs.Forget.{is_going}

-- whether a column refers to a table
abbrev pub refers_to : Column → ℕ → Bool
refers_to column table = option_map_or (λ link. link.1.0 == table) column.refers false

-- a row of the table of a number has another's key in a column of a number, which refers to the other's table
pub record IsReferring (db : Db) (gone : RowName) (table : ℕ) (column : Column) (number : ℕ) (name : RowName) : Type 0 where
  pub of_table : name.table.0 ≡ table
  pub refers : refers_to column gone.table.0 ≡ true
  pub holds : value_at db name number ≡ Some (value_of gone.key)

-- the column of a number, of a table's definition
pub record RefersBy (db : Db) (gone : RowName) (table : ℕ) (definition : TableDef) (number : ℕ) (name : RowName) : Type 0 where
  pub column : Column
  pub column_is : slice_get definition.columns number ≡ Some column
  pub refers : IsReferring db gone table column number name

-- some column of the table of a number
pub record RefersOf (db : Db) (gone : RowName) (table : ℕ) (name : RowName) : Type 0 where
  pub definition : TableDef
  pub table_is : slice_get db.schema.tables table ≡ Some definition
  pub number : ℕ
  pub refers : RefersBy db gone table definition number name

-- some column of its table
pub record Refers (db : Db) (gone name : RowName) : Type 0 where
  pub table : ℕ
  pub by : RefersOf db gone table name

-- a row refers to one that goes
pub record RefersToGone (db : Db) (subject name : RowName) : Type 0 where
  pub gone : RowName
  pub goes : is_going db subject gone ≡ true
  pub refers : Refers db gone name
