-- What is counted for a group.
use Rattle.std.specs.Prelude.{ℕ, ◌+◌, ◌-◌, pos, List, length, map, Option, None, Some}
use Rattle.own_base.specs.declared.value.Key.{Key}
use Rattle.own_base.specs.declared.value.Key.TheVariants as key
use Rattle.own_base.specs.declared.value.Value.{Value}
use Rattle.own_base.specs.declared.value.Value.TheVariants.{Null, Int, Text}
use Rattle.own_model.specs.declared.bound.BoundItem.{BoundItem}
use Rattle.own_model.specs.declared.bound.BoundItem.TheVariants as item
use Rattle.own_model.specs.Db.{Row}
use Rattle.query_model.specs.Query.{number_in}
use Rattle.view_deltas.specs.Counted.{Counted}
use Rattle.view_deltas.specs.Numbers.{numbers_in, shown_sum, with_number_of}
use Rattle.view_deltas.specs.declared.item_tally.ItemTally.{ItemTally}
use Rattle.view_deltas.specs.declared.item_tally.ItemTally.TheVariants.{Group, Count, Sum}
use Rattle.view_deltas.specs.declared.way.Way.{Way}
use Rattle.view_deltas.specs.declared.way.Way.TheVariants.{In, Out}

-- what is counted for an item in some rows
abbrev pub item_tally : List Row → BoundItem → ItemTally
item_tally rows (item.Column column) = Group
item_tally rows item.Count = Count
item_tally rows (item.SumOf column) = Sum column (numbers_in column.0 rows)

-- how many rows there are, and what is counted for each item
unfoldable pub tally : List BoundItem → List Row → Counted
tally items rows = record { rows = length rows; items = map (item_tally rows) items }

-- with one row more, or one less
abbrev pub item_with : Way → Row → ItemTally → ItemTally
item_with way row Group = Group
item_with way row Count = Count
item_with way row (Sum column numbers) = Sum column (with_number_of way (number_in column.0 row) numbers)

abbrev pub rows_with : Way → ℕ → ℕ
rows_with In rows = rows + 1
rows_with Out rows = rows - 1

abbrev pub with_row : Way → Row → Counted → Counted
with_row way row counted = record { rows = rows_with way counted.rows; items = map (item_with way row) counted.items }

-- the value of a group by its place
abbrev pub side_value : Option Key → Value
side_value None = Null
side_value (Some (key.Int number)) = Int number
side_value (Some (key.Text bytes)) = Text bytes

-- what an item shows of a group that has a value and so many rows
abbrev pub shown_item : Value → ℕ → ItemTally → Value
shown_item value rows Group = value
shown_item value rows Count = Int (pos rows)
shown_item value rows (Sum column numbers) = shown_sum numbers

-- and the row that is shown of it
abbrev pub shown_tally : Option Key → Counted → Row
shown_tally side counted = map (shown_item (side_value side) counted.rows) counted.items
