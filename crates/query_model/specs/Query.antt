-- The rows of a select.
use Rattle.std.specs.Prelude.{ℕ, ℤ, ◌+ℤ◌, pos, List, [], ◌∷◌, ◌++◌, Bool, Option, None, Some, filter, filter_map, flat_map, fold, length, map, nat_lt, slice_get, if◌then◌else◌}
use Rattle.std.specs.Option.{option_map_or}
use Rattle.std.specs.declared.cmp.Ordering.{Ordering}
use Rattle.std.specs.declared.cmp.Ordering.TheVariants.{Less, Equal, Greater}
use Rattle.own_base.specs.declared.number.ColNo.{ColNo}
use Rattle.own_base.specs.declared.value.Value.{Value}
use Rattle.own_base.specs.declared.value.Value.TheVariants.{Null, Int, Text, Sum}
use Rattle.own_model.specs.declared.bound.BoundItem.{BoundItem}
use Rattle.own_model.specs.declared.bound.BoundItem.TheVariants.{Column, Count, SumOf}
use Rattle.own_model.specs.declared.bound.BoundSelect.{BoundSelect}
use Rattle.own_model.specs.declared.bound.Source1.{Source1}
use Rattle.own_model.specs.declared.bound.Source1.TheVariants.{Table, View, Pair}
use Rattle.own_model.specs.declared.condition.Cmp.TheVariants.{Eq}
use Rattle.own_model.specs.declared.limit.LimitName.TheVariants as limit
use Rattle.own_model.specs.declared.limit.TheConstants.{REPLY_ROWS}
use Rattle.own_model.specs.declared.refusal.Refusal.TheVariants.{Limit}
use Rattle.own_model.specs.declared.reply.Reply.{Reply}
use Rattle.own_model.specs.declared.reply.Reply.TheVariants.{Refused, Rows}
use Rattle.own_model.specs.declared.schema.Schema.{Schema}
use Rattle.own_model.specs.declared.schema.ViewDef.{ViewDef}
use Rattle.own_model.specs.Db.{Row}
use Rattle.own_model.specs.Stored.{is_equal, rows_at}
use Rattle.query_model.specs.Order.{ordered_by, value_cmp}
use Rattle.query_model.specs.Truth.{cell, compared, comparison, is_true, keeps}

-- whether two rows meet in a join: the values of ON are equal, and neither is NULL
abbrev pub meet : ℕ → ℕ → Row → Row → Bool
meet left_column right_column left right = is_true (comparison Eq (compared (cell left left_column) (cell right right_column)))

-- the pairs of a row of the left table with those of the right one that it meets, each as one row
abbrev pub pairs_of : ℕ → ℕ → List Row → Row → List Row
pairs_of left_column right_column rights left = map (λ right. left ++ right) (filter (meet left_column right_column left) rights)

-- a join: by left key, then right key, as the tables stand
abbrev pub joined : ℕ → ℕ → List Row → List Row → List Row
joined left_column right_column lefts rights = flat_map (pairs_of left_column right_column rights) lefts

-- the rows of a source that is a table or a join
abbrev pub base_rows : List (List Row) → Source1 → List Row
base_rows rows (Table table) = rows_at rows table.0
base_rows rows (Pair left right left_column right_column) = joined left_column.0 right_column.0 (rows_at rows left.0) (rows_at rows right.0)
base_rows rows (View view) = []

-- what an item of a plain select shows of a row
abbrev pub shown_item : Row → BoundItem → Value
shown_item row (Column column) = cell row column.0
shown_item row Count = Null
shown_item row (SumOf column) = Null

abbrev pub projected : List BoundItem → Row → Row
projected items row = map (shown_item row) items

-- the numbers that stand in a column; NULL is none
abbrev pub number_in : ℕ → Row → Option ℤ
number_in column row = by (cell row column)
  where
    by : Value → Option ℤ
    by (Int number) = Some number
    by (Sum number) = Some number
    by Null = None
    by (Text bytes) = None

-- SUM: NULL where there is no value
abbrev pub sum_of : List ℤ → Value
sum_of [] = Null
sum_of (first ∷ rest) = Sum (fold (λ sum number. sum +ℤ number) first rest)

-- what an item of a grouped select shows of a group, by its value and its rows
abbrev pub summed_item : Value → List Row → BoundItem → Value
summed_item value rows (Column column) = value
summed_item value rows Count = Int (pos (length rows))
summed_item value rows (SumOf column) = sum_of (filter_map (number_in column.0) rows)

abbrev pub summary : List BoundItem → Value → List Row → Row
summary items value rows = map (summed_item value rows) items

-- by how a value stands to the first of some: before it, in its place, or among the others
abbrev pub at_first : Ordering → Value → Value → List Value → List Value → List Value
at_first Less value first rest further = value ∷ first ∷ rest
at_first Equal value first rest further = first ∷ rest
at_first Greater value first rest further = first ∷ further

-- a value more among values that rise, if it isn't there
abbrev pub with_value : Value → List Value → List Value
with_value value [] = value ∷ []
with_value value (first ∷ rest) = at_first (value_cmp value first) value first rest (with_value value rest)

-- the values of a column, rising, each once, NULL first
abbrev pub values_of : ℕ → List Row → List Value
values_of column rows = fold (λ values row. with_value (cell row column) values) [] rows

-- the rows that have a value in a column; the NULLs are of one group
abbrev pub group_of : ℕ → List Row → Value → List Row
group_of column rows value = filter (λ row. is_equal (value_cmp (cell row column) value)) rows

-- one row for each group value; without GROUP BY exactly one row
unfoldable pub grouped : List BoundItem → Option ColNo → List Row → List Row
grouped items None rows = summary items Null rows ∷ []
grouped items (Some column) rows = map (λ value. summary items value (group_of column.0 rows value)) (values_of column.0 rows)

-- rows in the order that ORDER BY gives, where there is one
abbrev pub in_order : Option (ColNo × Bool) → List Row → List Row
in_order None rows = rows
in_order (Some order) rows = ordered_by order.0.0 order.1 rows

-- The rows of a select over the rows of its source: those that WHERE keeps, grouped or not, in order.
unfoldable pub selected : BoundSelect → List Row → List Row
selected query rows = if query.grouped then in_order query.order (grouped query.items query.group (filter (keeps query.cond) rows))
    else map (projected query.items) (in_order query.order (filter (keeps query.cond) rows))

-- the rows of a view, in its own order
unfoldable pub view_rows : List (List Row) → ViewDef → List Row
view_rows rows view = selected view.query (base_rows rows view.query.source)

-- the rows of any source
abbrev pub source_rows : Schema → List (List Row) → Source1 → List Row
source_rows schema rows (View view) = option_map_or (view_rows rows) (slice_get schema.views view.0) []
source_rows schema rows source = base_rows rows source

-- the rows of a select
unfoldable pub query_rows : Schema → List (List Row) → BoundSelect → List Row
query_rows schema rows query = selected query (source_rows schema rows query.source)

-- the reply to a SELECT: its rows, where there aren't too many
abbrev pub reply_of : List Row → Reply
reply_of rows = if nat_lt REPLY_ROWS (length rows) then Refused (Limit limit.Reply) else Rows rows
