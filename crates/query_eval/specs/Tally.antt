-- What a grouped select counts for a group.
use Rattle.std.specs.Prelude.{ℕ, ◌+◌, ◌<◌, ◌^◌, ℤ, pos, List, Option, None, Some, filter_map, length, map}
use Rattle.own_base.specs.declared.value.Value.{Value}
use Rattle.own_base.specs.declared.value.Value.TheVariants.{Int}
use Rattle.own_model.specs.declared.bound.BoundItem.{BoundItem}
use Rattle.own_model.specs.declared.bound.BoundItem.TheVariants as item
use Rattle.own_model.specs.Db.{Row}
use Rattle.query_model.specs.Query.{number_in}
use Rattle.query_eval.specs.Numbers.{Numbers, numbers_of, shown_sum, with_number}
use Rattle.query_eval.specs.declared.item_tally.ItemTally.{ItemTally}
use Rattle.query_eval.specs.declared.item_tally.ItemTally.TheVariants.{Group, Count, Sum}

-- what is counted for an item in some rows
abbrev pub item_tally : List Row → BoundItem → ItemTally
item_tally rows (item.Column column) = Group
item_tally rows item.Count = Count (length rows)
item_tally rows (item.SumOf column) = Sum column (numbers_of (filter_map (number_in column.0) rows))

-- what is counted for each item
abbrev pub tally : List BoundItem → List Row → List ItemTally
tally items rows = map (item_tally rows) items

abbrev pub with_number_of : Numbers → Option ℤ → Numbers
with_number_of numbers None = numbers
with_number_of numbers (Some number) = with_number numbers number

-- with one row more
abbrev pub with_row : Row → ItemTally → ItemTally
with_row row Group = Group
with_row row (Count rows) = Count (rows + 1)
with_row row (Sum column numbers) = Sum column (with_number_of numbers (number_in column.0 row))

-- what an item shows of a group that has a value
abbrev pub shown_tally : Value → ItemTally → Value
shown_tally value Group = value
shown_tally value (Count rows) = Int (pos rows)
shown_tally value (Sum column numbers) = shown_sum numbers

-- what is counted is less than 2 ^ 63, by so many at least
abbrev pub HasRoom : ℕ → ItemTally → Type 0
HasRoom more Group = Unit {0}
HasRoom more (Count rows) = rows + more < 2 ^ 63
HasRoom more (Sum column numbers) = numbers.count + more < 2 ^ 63
