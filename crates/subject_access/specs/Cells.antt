-- Cells of a row, by the columns that are hidden.
use Rattle.std.specs.Prelude.{ℕ, if◌then◌else◌}
use Rattle.own_base.specs.declared.number.ColumnSet.{ColumnSet}
use Rattle.own_base.specs.declared.value.Value.{Value}
use Rattle.own_model.specs.declared.reply.Cell.{Cell}
use Rattle.own_model.specs.declared.reply.Cell.TheVariants.{Shown, Hidden}
use Rattle.owner_model.specs.ColumnSets.{has_column}

-- the cell of a value with its column's number
abbrev pub cell_in : ColumnSet → ℕ × Value → Cell
cell_in hidden numbered = if has_column hidden numbered.0 then Hidden else Shown numbered.1
