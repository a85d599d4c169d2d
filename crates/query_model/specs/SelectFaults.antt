-- What is wrong with a select.
use Rattle.std.specs.Prelude.{List, [], ◌∷◌, ◌++◌, Bool, true, false, ◌&&◌, ◌||◌, ◌==◌, Option, None, Some, codes, flat_map, is_none, is_some, length, bytes_eq, if◌then◌else◌}
use Rattle.std.specs.List.{list_any}
use Rattle.std.specs.Option.{option_map_or}
use Rattle.own_model.specs.declared.refusal.Refusal.{Refusal}
use Rattle.own_model.specs.declared.refusal.Refusal.TheVariants.{NoColumn, NoTable, WrongKind}
use Rattle.own_model.specs.declared.schema.Schema.{Schema}
use Rattle.own_model.specs.declared.select.ColRef.{ColRef}
use Rattle.own_model.specs.declared.select.Item.{Item}
use Rattle.own_model.specs.declared.select.Items.{Items}
use Rattle.own_model.specs.declared.select.Items.TheVariants.{Star, Listed}
use Rattle.own_model.specs.declared.select.Join.{Join}
use Rattle.own_model.specs.declared.select.Order.{Order}
use Rattle.own_model.specs.declared.select.Select.{Select}
use Rattle.own_model.specs.declared.select.What.{What}
use Rattle.own_model.specs.declared.select.What.TheVariants.{Column, Count, SumOf}
use Rattle.query_model.specs.ConditionFaults.{kind_meant, unlike, where_faults}
use Rattle.query_model.specs.Kinds.{is_text}
use Rattle.query_model.specs.Scope.{NameBytes, Named, Scope, column_meant, columns_named, no_column, scope_from, table_columns_named, table_named, view_named}

-- COUNT and SUM
abbrev pub counts_or_sums : Item → Bool
counts_or_sums item = by item.what
  where
    by : What → Bool
    by (Column reference) = false
    by Count = true
    by (SumOf reference) = true

-- the items that are listed; a star lists none
abbrev pub listed_items : Items → List Item
listed_items Star = []
listed_items (Listed items) = items

-- a select is grouped where it has COUNT, SUM or GROUP BY
abbrev pub is_grouped : Select → Bool
is_grouped select = is_some select.group || list_any counts_or_sums (listed_items select.items)

-- the columns that a select can name: those of its table or view, or those of the two tables that it joins
unfoldable pub select_scope : Schema → Select → Scope
select_scope schema select = by select.join
  where
    by : Option Join → Scope
    by None = scope_from 0 select.from (columns_named schema select.from)
    by (Some join) = scope_from 0 select.from (table_columns_named schema select.from)
        ++ scope_from (length (table_columns_named schema select.from)) join.table (table_columns_named schema join.table)

-- where a table has to stand: no view does
abbrev pub no_table : Schema → NameBytes → List Refusal
no_table schema name = if is_none (table_named schema name) then NoTable name ∷ [] else []

-- where a table or a view may stand
abbrev pub no_source : Schema → NameBytes → List Refusal
no_source schema name = if is_none (table_named schema name) && is_none (view_named schema name) then NoTable name ∷ [] else []

-- a table isn't joined with itself
abbrev pub joined_twice : NameBytes → Join → List Refusal
joined_twice name join = if bytes_eq name join.table then NoTable join.table ∷ [] else []

-- the tables of FROM: a view stands only by itself in a plain select
abbrev pub from_faults : Schema → Select → List Refusal
from_faults schema select = by select.join
  where
    by : Option Join → List Refusal
    by (Some join) = no_table schema select.from ++ no_table schema join.table ++ joined_twice select.from join
    by None = if is_grouped select then no_table schema select.from else no_source schema select.from

-- whether two references mean one column
abbrev pub is_one_column : Option Named → Option Named → Bool
is_one_column (Some left) (Some right) = left.number == right.number
is_one_column _ _ = false

-- a column item of a grouped select is the group column
abbrev pub not_the_group : Scope → Option ColRef → ColRef → List Refusal
not_the_group scope group reference =
    if option_map_or (λ by. is_one_column (column_meant scope by) (column_meant scope reference)) group false then [] else NoColumn reference.column ∷ []

-- SUM is of numbers
abbrev pub summed_text : Scope → ColRef → List Refusal
summed_text scope reference = if option_map_or is_text (kind_meant scope reference) false then WrongKind reference.column ∷ [] else []

-- the faults of an item, in a grouped select or a plain one
abbrev pub item_faults : Scope → Bool → Option ColRef → What → List Refusal
item_faults scope grouped group (Column reference) = if grouped then not_the_group scope group reference else no_column scope reference
item_faults scope grouped group Count = []
item_faults scope grouped group (SumOf reference) = no_column scope reference ++ summed_text scope reference

-- whether two columns are of one table
abbrev pub is_of_one_table : Option Named → Option Named → Bool
is_of_one_table (Some left) (Some right) = bytes_eq left.table right.table
is_of_one_table _ _ = false

-- ON compares a column of each table, of kinds that go together
abbrev pub on_faults : Scope → Join → List Refusal
on_faults scope join = no_column scope join.left ++ no_column scope join.right
    ++ (if is_of_one_table (column_meant scope join.left) (column_meant scope join.right) then NoColumn join.right.column ∷ []
    else unlike join.left (kind_meant scope join.left) (kind_meant scope join.right))

abbrev pub join_faults : Scope → Option Join → List Refusal
join_faults scope None = []
join_faults scope (Some join) = on_faults scope join

abbrev pub group_faults : Scope → Option ColRef → List Refusal
group_faults scope None = []
group_faults scope (Some reference) = no_column scope reference

-- the name of an output column: its AS name, else the column's, `count` or `sum`
abbrev pub what_name : What → NameBytes
what_name (Column reference) = reference.column
what_name Count = codes "count"
what_name (SumOf reference) = codes "sum"

abbrev pub output_name : Item → NameBytes
output_name item = option_map_or (λ name. name) item.alias (what_name item.what)

-- whether the ORDER BY of a grouped select means an output column: the first of its name; before the dot stands the table
abbrev pub orders_output : Select → ColRef → Bool
orders_output select reference = option_map_or (bytes_eq select.from) reference.table true
    && list_any (λ item. bytes_eq (output_name item) reference.column) (listed_items select.items)

abbrev pub order_faults : Scope → Select → Option Order → List Refusal
order_faults scope select None = []
order_faults scope select (Some order) = if is_grouped select
    then (if orders_output select order.column then [] else NoColumn order.column.column ∷ [])
    else no_column scope order.column

-- the faults behind FROM's, in the text's order: items, ON, WHERE, GROUP BY, ORDER BY
abbrev pub scoped_faults : Scope → Select → List Refusal
scoped_faults scope select = flat_map (λ item. item_faults scope (is_grouped select) select.group item.what) (listed_items select.items)
    ++ join_faults scope select.join
    ++ where_faults scope select.cond
    ++ group_faults scope select.group
    ++ order_faults scope select select.order

-- the faults of a select
unfoldable pub select_faults : Schema → Select → List Refusal
select_faults schema select = from_faults schema select ++ scoped_faults (select_scope schema select) select
