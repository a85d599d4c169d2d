-- How many numbers there are, and their sum.
use Rattle.std.specs.Prelude.{ℕ, ◌+◌, ◌-◌, ℤ, ◌+ℤ◌, ◌-ℤ◌, pos, List, [], ◌∷◌, ◌==◌, Option, None, Some, if◌then◌else◌}
use Rattle.own_base.specs.declared.value.Value.{Value}
use Rattle.own_base.specs.declared.value.Value.TheVariants.{Null, Sum}
use Rattle.own_model.specs.Db.{Row}
use Rattle.query_model.specs.Query.{number_in}
use Rattle.view_deltas.specs.declared.number_tally.NumberTally.{NumberTally}
use Rattle.view_deltas.specs.declared.way.Way.{Way}
use Rattle.view_deltas.specs.declared.way.Way.TheVariants.{In, Out}

abbrev pub no_numbers : NumberTally
no_numbers = record { count = 0; sum = pos 0 }

-- with one number more, or one less
abbrev pub with_number : Way → ℤ → NumberTally → NumberTally
with_number In number numbers = record { count = numbers.count + 1; sum = numbers.sum +ℤ number }
with_number Out number numbers = record { count = numbers.count - 1; sum = numbers.sum -ℤ number }

-- with that of a row, where it has one
abbrev pub with_number_of : Way → Option ℤ → NumberTally → NumberTally
with_number_of way None numbers = numbers
with_number_of way (Some number) numbers = with_number way number numbers

-- those that stand in a column of some rows
unfoldable pub numbers_in : ℕ → List Row → NumberTally
numbers_in column [] = no_numbers
numbers_in column (row ∷ rows) = with_number_of In (number_in column row) (numbers_in column rows)

-- what SUM shows of them: NULL where there is none
abbrev pub shown_sum : NumberTally → Value
shown_sum numbers = if numbers.count == 0 then Null else Sum numbers.sum
