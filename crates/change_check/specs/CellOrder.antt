-- The order of cells.
use Rattle.std.specs.Prelude.{ℕ, Bool}
use Rattle.std.specs.Ordering.{is_gt, nat_cmp, ordering_then}
use Rattle.std.specs.declared.cmp.Ordering.{Ordering}
use Rattle.own_base.specs.declared.value.Key.{Key}
use Rattle.subject_model.specs.NameOrder.{name_cmp}
use Rattle.change_check.specs.declared.cell_name.CellName.{CellName}

-- the cell of a column of the row of a key, of the table of a number
abbrev pub cell_at : ℕ → ℕ → Key → CellName
cell_at table column key = record { row = record { table = record { 0 = table }; key = key }; column = record { 0 = column } }

-- by table, then by key, then by column
abbrev pub cell_cmp : CellName → CellName → Ordering
cell_cmp one other = ordering_then (name_cmp one.row other.row) (nat_cmp one.column.0 other.column.0)

-- whether the one cell comes after the other
abbrev pub is_behind : CellName → CellName → Bool
is_behind one other = is_gt (cell_cmp one other)
