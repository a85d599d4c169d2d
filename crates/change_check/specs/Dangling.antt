-- Which cells a change may make refer to a row that isn't there.
use Rattle.std.specs.Prelude.{◌≡◌, ℕ, Bool, false, true, not, ◌&&◌, ◌==◌, IsSome, Option, None, Some, is_some, slice_get, if◌then◌else◌}
use Rattle.std.specs.Option.{option_and_then, option_map_or}
use Rattle.own_base.specs.declared.change.Change.{Change}
use Rattle.own_base.specs.declared.number.TableNo.{TableNo}
use Rattle.own_base.specs.declared.row_name.RowName.{RowName}
use Rattle.own_model.specs.declared.schema.Column.{Column}
use Rattle.own_model.specs.declared.schema.TableDef.{TableDef}
use Rattle.own_model.specs.Db.{Db}
use Rattle.owner_model.specs.Joins.{row_of}
use Rattle.subject_model.specs.Named.{is_there}
use Rattle.link_model.specs.Holds.{holders_at, holds}
use Rattle.change_check.specs.declared.cell_name.CellName.{CellName}
use Rattle.change_check.specs.CellOrder.{cell_at}
use Rattle.change_check.specs.Came.{came}
use Rattle.change_check.specs.Holders.{first_cell}

-- whether a column refers to a table
abbrev pub refers_to : TableNo → Column → Bool
refers_to table column = option_map_or (λ link. link.1.0 == table.0) column.refers false

-- the cell of a change's row in a column that refers to a table, where it came to hold a key there of which there is no row
abbrev pub dangling_by : Db → Change → ℕ → Column → Option CellName
dangling_by db change number column =
    option_and_then (λ link. option_and_then (λ key. if is_there db (record { table = link.1; key = key }) then None
    else Some (cell_at change.name.table.0 number change.name.key)) (came number change)) column.refers

-- the first cell of a column, of the table of a number, that refers to a row
abbrev pub referring_to : Db → RowName → ℕ → ℕ → Column → Option CellName
referring_to db name table number column = if refers_to name.table column then first_cell table number (holders_at db table number name.key) else None

-- A cell of a change's row holds what the row came to hold there.
pub record IsWhatCame (change : Change) (name : CellName) : Type 0 where
  pub row : name.row ≡ change.name
  pub came : IsSome (came name.column.0 change)

-- A cell refers to the row of a name, whether it is there or not.
pub record RefersTo (db : Db) (to : RowName) (name : CellName) : Type 0 where
  pub table : TableDef
  pub table_is : slice_get db.schema.tables name.row.table.0 ≡ Some table
  pub column : Column
  pub column_is : slice_get table.columns name.column.0 ≡ Some column
  pub refers : refers_to to.table column ≡ true
  pub holds : option_map_or (holds name.column.0 to.key) (row_of db name.row) false ≡ true

-- whether a change takes away a row
abbrev pub is_taken : Change → Bool
is_taken change = is_some change.before && not (is_some change.after)
