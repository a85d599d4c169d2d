-- Where the rows of a select come from, by the columns that ON compares.
use Rattle.std.specs.Prelude.{ℕ, ◌-◌, Option, None, Some, nat_lt, if◌then◌else◌}
use Rattle.std.specs.Option.{option_map_or}
use Rattle.own_model.specs.declared.bound.BoundSelect.{BoundSelect}
use Rattle.own_model.specs.declared.bound.Source1.{Source1}
use Rattle.own_model.specs.declared.bound.Source1.TheVariants.{Pair}
use Rattle.own_model.specs.declared.select.Join.{Join}
use Rattle.own_model.specs.declared.select.Select.{Select}
use Rattle.query_model.specs.ConditionFaults.{bound_where, column_no}
use Rattle.query_model.specs.Scope.{Scope, number_meant}
use Rattle.query_model.specs.SelectFaults.{is_grouped}
use Rattle.query_model.specs.SelectMeaning.{bound_items, bound_order}
use Rattle.bind_select.specs.declared.from.Rows.{Rows}
use Rattle.bind_select.specs.declared.from.Rows.TheVariants.{One, Two}

-- the first of them, and the second
abbrev pub first_on : Scope → Option Join → ℕ
first_on scope None = 0
first_on scope (Some join) = number_meant scope join.left

abbrev pub second_on : Scope → Option Join → ℕ
second_on scope None = 0
second_on scope (Some join) = number_meant scope join.right

-- the one source; or the two tables, with each column in its own
abbrev pub source_from : Rows → ℕ → ℕ → Source1
source_from (One source) first second = source
source_from (Two left right left_columns) first second = Pair left right
    (record { 0 = if nat_lt first second then first else second })
    (record { 0 = (if nat_lt first second then second else first) - left_columns })

-- a select over these rows and columns
abbrev pub scoped_from : Rows → Scope → Select → BoundSelect
scoped_from rows scope select = record {
  source = source_from rows (first_on scope select.join) (second_on scope select.join);
  items = bound_items scope select.items;
  cond = bound_where scope select.cond;
  grouped = is_grouped select;
  group = option_map_or (λ reference. Some (column_no scope reference)) select.group None;
  order = option_map_or (λ order. Some (bound_order scope select order)) select.order None;
}
