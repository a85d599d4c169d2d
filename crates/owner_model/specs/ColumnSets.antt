-- Sets of a table's columns as numbers: bit i is column i.
use Rattle.std.specs.Prelude.{ℕ, ◌^◌, Bool, ◌==◌, sum_by, if◌then◌else◌}
use Rattle.std.specs.Int.{bit_at}
use Rattle.std.specs.List.{range_with_len}
use Rattle.own_base.specs.declared.number.ColumnSet.{ColumnSet}
use Rattle.own_model.specs.declared.limit.TheConstants.{TABLE_COLUMNS}

-- whether a column is in the set
abbrev pub has_column : ColumnSet → ℕ → Bool
has_column set column = bit_at set.0 column == 1

-- the set of the columns that pass a test
unfoldable pub set_of : (ℕ → Bool) → ColumnSet
set_of passes = record { 0 = sum_by (λ column. if passes column then 2 ^ column else 0) (range_with_len 0 TABLE_COLUMNS) }
