-- What holds of the rows of a sound database, in plain relations.
use Rattle.std.specs.Prelude.{◌≡◌, ◌≢◌, ℕ, ◌≤◌, Some, Contains, IsSome, IsTrue, slice_get}
use Rattle.own_base.specs.declared.number.TableNo.{TableNo}
use Rattle.own_base.specs.declared.row_name.RowName.{RowName}
use Rattle.own_base.specs.declared.value.Key.{Key}
use Rattle.own_base.specs.declared.value.Value.{Value}
use Rattle.own_base.specs.declared.value.Value.TheVariants.{Null}
use Rattle.own_model.specs.declared.limit.TheConstants.{STORE_ROWS, STORE_WEIGHT}
use Rattle.own_model.specs.declared.schema.Column.{Column}
use Rattle.own_model.specs.declared.schema.Edge.{Edge}
use Rattle.own_model.specs.declared.schema.RefKind.{RefKind}
use Rattle.own_model.specs.declared.schema.TableDef.{TableDef}
use Rattle.own_model.specs.Db.{Db}
use Rattle.owner_model.specs.Joins.{row_of, value_at, value_of}
use Rattle.subject_model.specs.Owners.{Owns}
use Rattle.state_model.specs.Weight.{row_count, weight}

-- the row of a name is there, and holds a value in a column of its table
pub record HoldsIn (db : Db) (name : RowName) (number : ℕ) (column : Column) (value : Value) : Type 0 where
  pub table : TableDef
  pub table_is : slice_get db.schema.tables name.table.0 ≡ Some table
  pub column_is : slice_get table.columns number ≡ Some column
  pub holds : value_at db name number ≡ Some value

-- some subject owns the row of a name: a path of owner edges leads from it to a row of data subjects
pub record IsOwned (db : Db) (name : RowName) : Type 0 where
  pub subject : RowName
  pub owns : Owns db subject name

-- a value is the key of a row of a table that is there
pub record NamesRow (db : Db) (table : TableNo) (value : Value) : Type 0 where
  pub key : Key
  pub is : value ≡ value_of key
  pub there : IsSome (row_of db (record { table = table; key = key }))

pub record IsConsistent (db : Db) : Type 0 where
  -- each row of a private table, out of which an owner edge leads, is owned
  pub owned : (name : RowName) (edge : Edge) → IsSome (row_of db name) → Contains db.schema.edges edge → IsTrue edge.owner → edge.lower ≡ name.table → IsOwned db name
  -- each reference that isn't NULL has its row
  pub references : (name : RowName) (number : ℕ) (column : Column) (value : Value) (link : RefKind × TableNo) → HoldsIn db name number column value
      → column.refers ≡ Some link → value ≢ Null → NamesRow db link.1 value
  -- no two rows of a table hold one value in a UNIQUE column, but for NULL
  pub unique : (one other : RowName) (number : ℕ) (column : Column) (value : Value) → HoldsIn db one number column value → HoldsIn db other number column value
      → one.table ≡ other.table → IsTrue column.unique → value ≢ Null → one ≡ other
  -- the limits of a store are kept
  pub rows : row_count db ≤ STORE_ROWS
  pub weighs : weight db ≤ STORE_WEIGHT
