-- Rows of private tables without an owner.
use Rattle.std.specs.Prelude.{◌≡◌, Bool, true, not, ◌&&◌, Option, None, Some, slice_get, if◌then◌else◌}
use Rattle.std.specs.Option.{option_and_then}
use Rattle.own_base.specs.declared.row_name.RowName.{RowName}
use Rattle.own_model.specs.declared.refusal.Refusal.{Refusal}
use Rattle.own_model.specs.declared.refusal.Refusal.TheVariants.{Owner}
use Rattle.own_model.specs.declared.schema.Schema.{Schema}
use Rattle.own_model.specs.Db.{Db}
use Rattle.schema_model.specs.Tables.{is_private}
use Rattle.subject_model.specs.Named.{is_there}
use Rattle.subject_model.specs.Owners.{has_owner}
use Rattle.change_check.specs.declared.cell_name.CellName.{CellName}
use Rattle.change_check.specs.CellOrder.{cell_at}
use Rattle.change_check.specs.Least.{is_reached}

-- whether the row of a name is there, in a private table, and has no owner
abbrev pub is_unowned : Db → RowName → Bool
is_unowned db name = is_private db.schema name.table.0 && (is_there db name && not (has_owner db name))

-- whether a cell is of such a row
abbrev pub is_of_unowned : Db → CellName → Bool
is_of_unowned db cell = is_unowned db cell.row

-- the first cell of such a row, which stands for the row
abbrev pub unowned_cell : Db → RowName → Option CellName
unowned_cell db name = if is_unowned db name then Some (cell_at name.table.0 0 name.key) else None

-- Where the row of a name is such a row, what was found isn't behind any of its cells.
abbrev pub IsCaught : Db → RowName → Option CellName → Type 0
IsCaught db name found = (cell : CellName) → cell.row ≡ name → is_of_unowned db cell ≡ true → is_reached found cell ≡ true

-- what is refused where a cell is of a row without an owner
abbrev pub owner_refusal : Schema → Option CellName → Option Refusal
owner_refusal schema found =
    option_and_then (λ cell. option_and_then (λ table. Some (Owner table.name cell.row.key)) (slice_get schema.tables cell.row.table.0)) found
