-- Rules that what stands in a cell may break.
use Rattle.std.specs.Prelude.{ℕ, List, [], ◌∷◌, Bool, false, Option, Some, flat_map, slice_get, if◌then◌else◌}
use Rattle.std.specs.Option.{option_and_then, option_map_or}
use Rattle.own_base.specs.declared.value.Key.{Key}
use Rattle.own_model.specs.declared.refusal.Refusal.{Refusal}
use Rattle.own_model.specs.declared.refusal.Refusal.TheVariants as refusal
use Rattle.own_model.specs.declared.schema.Schema.{Schema}
use Rattle.own_model.specs.declared.schema.TableDef.{TableDef}
use Rattle.own_model.specs.Db.{Db, Row, key_of}
use Rattle.own_model.specs.Stored.{rows_at}
use Rattle.owner_model.specs.Joins.{row_of}
use Rattle.query_model.specs.Truth.{cell}
use Rattle.state_model.specs.Fault.{ColumnValue, breaks_reference, breaks_unique, column_values}
use Rattle.change_check.specs.declared.cell_name.CellName.{CellName}
use Rattle.change_check.specs.declared.refusing.Rule.{Rule}
use Rattle.change_check.specs.declared.refusing.Rule.TheVariants.{Unique, Reference}

-- whether what a row of a table holds in a column breaks a rule, given all rows of the table
abbrev pub Breaks : Type 0
Breaks = TableDef → List Row → Row → ColumnValue → Bool

abbrev pub breaks_by : Rule → Db → Breaks
breaks_by Unique db table rows row one = breaks_unique table rows row one
breaks_by Reference db table rows row one = breaks_reference db one

-- what is refused, by the table's name, the row's key and the column's name
abbrev pub refused_by : Rule → List ℕ → Key → List ℕ → Refusal
refused_by Unique table key column = refusal.Unique table key column
refused_by Reference table key column = refusal.Reference table key column

-- what a rule finds in a row
abbrev pub finds : Breaks → (List ℕ → Key → List ℕ → Refusal) → ℕ → TableDef → List Row → Row → List Refusal
finds breaks why number table rows row =
    flat_map (λ one. if breaks table rows row one then why table.name (key_of table row) one.column.name ∷ [] else []) (column_values table row)

-- whether what stands in a cell breaks a rule; where there is no such row or no such column nothing does
abbrev pub breaks_at : Breaks → Db → CellName → Bool
breaks_at breaks db name =
    option_map_or (λ table. option_map_or (λ row. option_map_or
    (λ column. breaks table (rows_at db.rows name.row.table.0) row (record { number = name.column.0; column = column; value = cell row name.column.0 }))
    (slice_get table.columns name.column.0) false) (row_of db name.row) false) (slice_get db.schema.tables name.row.table.0) false

-- what is refused where a cell breaks a rule
abbrev pub refusal_at : (List ℕ → Key → List ℕ → Refusal) → Schema → Option CellName → Option Refusal
refusal_at why schema found =
    option_and_then (λ name. option_and_then (λ table. option_and_then (λ column. Some (why table.name name.row.key column.name))
    (slice_get table.columns name.column.0)) (slice_get schema.tables name.row.table.0)) found
