-- What a select means.
use Rattle.std.specs.Prelude.{ℕ, ◌-◌, List, Bool, Option, None, Some, length, map, nat_lt, position, unwrap_or, bytes_eq, if◌then◌else◌}
use Rattle.std.specs.Option.{option_map_or}
use Rattle.own_base.specs.declared.number.ColNo.{ColNo}
use Rattle.own_base.specs.declared.number.TableNo.{TableNo}
use Rattle.own_model.specs.declared.bound.BoundItem.{BoundItem}
use Rattle.own_model.specs.declared.bound.BoundItem.TheVariants as bound
use Rattle.own_model.specs.declared.bound.BoundSelect.{BoundSelect}
use Rattle.own_model.specs.declared.bound.Source1.{Source1}
use Rattle.own_model.specs.declared.bound.Source1.TheVariants as source
use Rattle.own_model.specs.declared.schema.Kind.{Kind}
use Rattle.own_model.specs.declared.schema.Kind.TheVariants as kind
use Rattle.own_model.specs.declared.schema.Schema.{Schema}
use Rattle.own_model.specs.declared.select.Items.{Items}
use Rattle.own_model.specs.declared.select.Items.TheVariants.{Star, Listed}
use Rattle.own_model.specs.declared.select.Join.{Join}
use Rattle.own_model.specs.declared.select.Order.{Order}
use Rattle.own_model.specs.declared.select.Select.{Select}
use Rattle.own_model.specs.declared.select.What.{What}
use Rattle.own_model.specs.declared.select.What.TheVariants.{Column, Count, SumOf}
use Rattle.query_model.specs.ConditionFaults.{bound_where, column_no, kind_meant}
use Rattle.query_model.specs.Scope.{NameBytes, Scope, number_meant, table_columns_named, table_named, view_named}
use Rattle.query_model.specs.SelectFaults.{is_grouped, listed_items, output_name, select_scope}

-- the number of a table, and of a view
abbrev pub table_number : Schema → NameBytes → TableNo
table_number schema name = record { 0 = option_map_or (λ found. found.0) (table_named schema name) 0 }

-- A join's columns count in their own tables; ON may name the right table's column first.
abbrev pub pair_of : Schema → Select → Join → ℕ → ℕ → Source1
pair_of schema select join first second = source.Pair (table_number schema select.from) (table_number schema join.table)
    (record { 0 = if nat_lt first second then first else second })
    (record { 0 = (if nat_lt first second then second else first) - length (table_columns_named schema select.from) })

-- where the rows come from
abbrev pub source_of : Schema → Select → Source1
source_of schema select = by select.join
  where
    by : Option Join → Source1
    by (Some join) = pair_of schema select join (number_meant (select_scope schema select) join.left) (number_meant (select_scope schema select) join.right)
    by None = option_map_or (λ found. source.Table (record { 0 = found.0 })) (table_named schema select.from)
        (source.View (record { 0 = option_map_or (λ found. found.0) (view_named schema select.from) 0 }))

abbrev pub bound_what : Scope → What → BoundItem
bound_what scope (Column reference) = bound.Column (column_no scope reference)
bound_what scope Count = bound.Count
bound_what scope (SumOf reference) = bound.SumOf (column_no scope reference)

-- the items; a star is all columns of the source's row
abbrev pub bound_items : Scope → Items → List BoundItem
bound_items scope Star = map (λ named. bound.Column (record { 0 = named.number })) scope
bound_items scope (Listed items) = map (λ item. bound_what scope item.what) items

-- The order: of a plain select by a column of the source's row, of a grouped one by an output column.
abbrev pub bound_order : Scope → Select → Order → ColNo × Bool
bound_order scope select order = (
  (if is_grouped select
      then record { 0 = unwrap_or (position (λ item. bytes_eq (output_name item) order.column.column) (listed_items select.items)) 0 }
      else column_no scope order.column),
  order.down,
)

-- a select over the columns that it can name
abbrev pub scoped_select : Schema → Scope → Select → BoundSelect
scoped_select schema scope select = record {
  source = source_of schema select;
  items = bound_items scope select.items;
  cond = bound_where scope select.cond;
  grouped = is_grouped select;
  group = option_map_or (λ reference. Some (column_no scope reference)) select.group None;
  order = option_map_or (λ order. Some (bound_order scope select order)) select.order None;
}

-- what a select means
unfoldable pub bound_select : Schema → Select → BoundSelect
bound_select schema select = scoped_select schema (select_scope schema select) select

-- the kind of an output column
abbrev pub what_kind : Scope → What → Kind
what_kind scope (Column reference) = option_map_or (λ of. of) (kind_meant scope reference) kind.Int
what_kind scope Count = kind.Int
what_kind scope (SumOf reference) = kind.Sum

-- the names and the kinds of the output columns
abbrev pub output_names : Scope → Items → List NameBytes
output_names scope Star = map (λ named. named.column) scope
output_names scope (Listed items) = map output_name items

abbrev pub output_kinds : Scope → Items → List Kind
output_kinds scope Star = map (λ named. named.kind) scope
output_kinds scope (Listed items) = map (λ item. what_kind scope item.what) items
