-- Sizes of values and rows, in the unit of the weight limit.
use Rattle.std.specs.Prelude.{ℕ, ◌+◌, List, length, sum_by}
use Rattle.own_base.specs.declared.row.TheConstants.{ROW_SIZE}
use Rattle.own_base.specs.declared.value.TheConstants.{VALUE_SIZE}
use Rattle.own_base.specs.declared.value.Value.{Value}
use Rattle.own_base.specs.declared.value.Value.TheVariants.{Null, Int, Text, Sum}

-- that of any value, and for a text its bytes besides
abbrev pub value_size : Value → ℕ
value_size (Text bytes) = VALUE_SIZE + length bytes
value_size Null = VALUE_SIZE
value_size (Int number) = VALUE_SIZE
value_size (Sum number) = VALUE_SIZE

-- that of a row without columns, and the sizes of the values
abbrev pub row_size : List Value → ℕ
row_size values = ROW_SIZE + sum_by value_size values
