-- The meaning of a select, from what FROM names.
use Rattle.std.proofs.Common.{◌≡◌, Option, None, Some, ap, refl}
use Rattle.own_model.specs.declared.bound.Source1.{Source1}
use Rattle.own_model.specs.declared.bound.BoundSelect.{BoundSelect}
use Rattle.own_model.specs.declared.schema.Schema.{Schema}
use Rattle.own_model.specs.declared.condition.Cond.{Cond}
use Rattle.own_model.specs.declared.select.ColRef.{ColRef}
use Rattle.own_model.specs.declared.select.Items.{Items}
use Rattle.own_model.specs.declared.select.Join.{Join}
use Rattle.own_model.specs.declared.select.Order.{Order}
use Rattle.own_model.specs.declared.select.Select.{Select}
use Rattle.query_model.specs.Scope.{NameBytes}
use Rattle.query_model.specs.SelectFaults.{select_scope}
use Rattle.query_model.specs.SelectMeaning.{bound_select, source_of}
use Rattle.bind_select.specs.On.{first_on, scoped_from, second_on, source_from}
use Rattle.bind_select.specs.Rows.{rows_of}

-- the claim below
abbrev IsSource : Schema → Select → Type 0
IsSource schema select = source_from (rows_of schema select) (first_on (select_scope schema select) select.join) (second_on (select_scope schema select) select.join) ≡ source_of schema select

-- by the join, where there is one
source_at : (schema : Schema) (items : Items) (from : NameBytes) (join : Option Join) (cond : Option Cond) (group : Option ColRef) (order : Option Order)
    → IsSource schema (record { items = items; from = from; join = join; cond = cond; group = group; order = order })
source_at schema items from None cond group order = refl
source_at schema items from (Some join) cond group order = refl

-- where its rows come from
pub source_from-rows_of : (schema : Schema) (select : Select)
    → source_from (rows_of schema select) (first_on (select_scope schema select) select.join) (second_on (select_scope schema select) select.join) ≡ source_of schema select
source_from-rows_of schema select = source_at schema select.items select.from select.join select.cond select.group select.order

-- all of it
pub scoped_from-rows_of : (schema : Schema) (select : Select) → scoped_from (rows_of schema select) (select_scope schema select) select ≡ bound_select schema select
unfolding bound_select
scoped_from-rows_of schema select = let P : Source1 → BoundSelect = λ source. record (scoped_from (rows_of schema select) (select_scope schema select) select) { source = source } in ap P (source_from-rows_of schema select)

-- a select from what FROM names
pub ruleset selects = (scoped_from-rows_of)
