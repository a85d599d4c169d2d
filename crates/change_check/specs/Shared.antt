-- Which cells a change may make break UNIQUE.
use Rattle.std.specs.Prelude.{◌≡◌, ℕ, Option, None, Some, true, false, if◌then◌else◌}
use Rattle.std.specs.Option.{option_and_then, option_map_or}
use Rattle.own_base.specs.declared.change.Change.{Change}
use Rattle.own_base.specs.declared.value.Key.{Key}
use Rattle.own_model.specs.declared.schema.Column.{Column}
use Rattle.own_model.specs.Db.{Db}
use Rattle.owner_model.specs.Joins.{row_of}
use Rattle.link_model.specs.Holds.{holders_at, holds}
use Rattle.change_check.specs.declared.cell_name.CellName.{CellName}
use Rattle.change_check.specs.Holders.{first_of_many}
use Rattle.change_check.specs.Came.{came}

-- the first who holds what a change's row came to hold in a UNIQUE column, where another does too
abbrev pub shared_by : Db → Change → ℕ → Column → Option CellName
shared_by db change number column =
    if column.unique then option_and_then (λ value. first_of_many change.name.table.0 number (holders_at db change.name.table.0 number value)) (came number change) else None

-- A cell of a change's table holds what the row of the change came to hold in that column.
pub record HoldsWhatCame (db : Db) (change : Change) (name : CellName) : Type 0 where
  pub table : name.row.table.0 ≡ change.name.table.0
  pub value : Key
  pub came : came name.column.0 change ≡ Some value
  pub holds : option_map_or (holds name.column.0 value) (row_of db name.row) false ≡ true
