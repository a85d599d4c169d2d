-- What is lent of a table.
use Rattle.std.specs.Prelude.{ℕ}
use Rattle.own_model.specs.declared.schema.Column.{Column}
use Rattle.plan_bind.specs.declared.numbered_column.NumberedColumn.{NumberedColumn}

-- a column with its number
abbrev pub column_of : NumberedColumn → ℕ × Column
column_of found = (found.number.0, found.column.now)
