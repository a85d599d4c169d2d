-- Rows in order.
use Rattle.std.specs.Prelude.{ℕ, List, [], ◌∷◌, Bool, true, false, fold, if◌then◌else◌}
use Rattle.std.specs.declared.cmp.Ordering.{Ordering}
use Rattle.std.specs.declared.cmp.Ordering.TheVariants.{Less, Equal, Greater}
use Rattle.std.specs.Cmp.Lexicographic.{slice_cmp}
use Rattle.std.specs.Ordering.{int_cmp, nat_cmp}
use Rattle.own_base.specs.declared.value.Value.{Value}
use Rattle.own_base.specs.declared.value.Value.TheVariants.{Null, Int, Text, Sum}
use Rattle.own_model.specs.Db.{Row}
use Rattle.query_model.specs.Truth.{cell}

-- The order of values: NULL before all others, numbers by value, and texts by bytes behind them.
unfoldable pub value_cmp : Value → Value → Ordering
value_cmp Null Null = Equal
value_cmp Null _ = Less
value_cmp _ Null = Greater
value_cmp (Text left) (Text right) = slice_cmp nat_cmp left right
value_cmp (Text left) _ = Greater
value_cmp _ (Text right) = Less
value_cmp (Int left) (Int right) = int_cmp left right
value_cmp (Int left) (Sum right) = int_cmp left right
value_cmp (Sum left) (Int right) = int_cmp left right
value_cmp (Sum left) (Sum right) = int_cmp left right

abbrev pub is_less : Ordering → Bool
is_less Less = true
is_less Equal = false
is_less Greater = false

-- whether a value comes before another, rising or with DESC
abbrev pub precedes : Bool → Value → Value → Bool
precedes down left right = if down then is_less (value_cmp right left) else is_less (value_cmp left right)

-- a row more, behind all rows that it doesn't come before
abbrev pub placed : (Row → Row → Bool) → Row → List Row → List Row
placed before row [] = row ∷ []
placed before row (first ∷ rest) = if before row first then row ∷ first ∷ rest else first ∷ placed before row rest

-- Rows in order, one after another put at its place. So rows of which neither comes before the other stay as they stood.
unfoldable pub sorted : (Row → Row → Bool) → List Row → List Row
sorted before rows = fold (λ ordered row. placed before row ordered) [] rows

-- rows by a column, rising or with DESC
abbrev pub ordered_by : ℕ → Bool → List Row → List Row
ordered_by column down rows = sorted (λ left right. precedes down (cell left column) (cell right column)) rows
