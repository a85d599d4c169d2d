-- What an UPDATE sets a column to.
use Rattle.std.specs.Prelude.{ℤ, ◌+ℤ◌, neg_ℤ, ◌^◌, Option, None, Some, ◌&&◌, int_le, int_lt, pos, if◌then◌else◌}
use Rattle.own_base.specs.declared.value.Value.{Value}
use Rattle.own_base.specs.declared.value.Value.TheVariants.{Null, Int, Text, Sum}
use Rattle.own_model.specs.declared.bound.BoundExpr.{BoundExpr}
use Rattle.own_model.specs.declared.bound.BoundExpr.TheVariants.{Literal, Column, Plus, Minus}
use Rattle.own_model.specs.Db.{Row}
use Rattle.query_model.specs.Truth.{cell}

-- a number of 64 bits with its sign, where the number is one
abbrev pub in_range : ℤ → Option Value
in_range number = if int_le (neg_ℤ (pos (2 ^ 63))) number && int_lt number (pos (2 ^ 63)) then Some (Int number) else None

-- a number more than a value; of NULL it is NULL, and a value that is no number has none
abbrev pub increased : Value → ℤ → Option Value
increased (Int value) number = in_range (value +ℤ number)
increased Null number = Some Null
increased (Text bytes) number = Some Null
increased (Sum sum) number = Some Null

-- the value of an expression over a row, or none where it leaves the range
unfoldable pub value_of : BoundExpr → Row → Option Value
value_of (Literal value) row = Some value
value_of (Column column) row = Some (cell row column.0)
value_of (Plus column number) row = increased (cell row column.0) number
value_of (Minus column number) row = increased (cell row column.0) (neg_ℤ number)
