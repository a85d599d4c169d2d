-- The select of a view without faults reads a table, or two.
use Rattle.std.proofs.Common.{◌≡◌, ℕ, [], ◌++◌, Bool, false, ap}
use Rattle.std.specs.Prelude.{Option, None, Some, is_none}
use Rattle.std.specs.Option.{option_map_or}
use Rattle.own_model.specs.declared.bound.Source1.TheVariants.{Table, View}
use Rattle.own_model.specs.declared.condition.Cond.{Cond}
use Rattle.own_model.specs.declared.create.CreateView.{CreateView}
use Rattle.own_model.specs.declared.refusal.Refusal.TheVariants.{NoTable}
use Rattle.own_model.specs.declared.schema.Schema.{Schema}
use Rattle.own_model.specs.declared.schema.TableDef.{TableDef}
use Rattle.own_model.specs.declared.schema.ViewDef.{ViewDef}
use Rattle.own_model.specs.declared.select.ColRef.{ColRef}
use Rattle.own_model.specs.declared.select.Items.{Items}
use Rattle.own_model.specs.declared.select.Join.{Join}
use Rattle.own_model.specs.declared.select.Order.{Order}
use Rattle.own_model.specs.declared.select.Select.{Select}
use Rattle.query_model.specs.BoundView.{new_view, view_faults}
use Rattle.query_model.specs.Refused.{lowest}
use Rattle.query_model.specs.Scope.{NameBytes, table_named, view_named}
use Rattle.query_model.specs.SelectFaults.{no_table, select_faults}
use Rattle.query_model.specs.SelectMeaning.{bound_select}
use Rattle.query_eval.specs.Sources.{IsBaseOf}
use Rattle.readable_model.specs.Sources.{IsSourceThere, IsThere}
use Rattle.query_model.proofs.NoFaults.{none-first, none-if, none-last}
use Rattle.readable_model.proofs.Sources.{source_is_there}

-- a source that is one table
abbrev number_found : {A : Type 0} → Option (ℕ × A) → ℕ
number_found found = option_map_or (λ found. found.0) found 0

base-one : (schema : Schema) (grouped : Bool) (table : Option (ℕ × TableDef)) (view : Option (ℕ × ViewDef)) → is_none table ≡ false
    → IsSourceThere schema grouped (option_map_or (λ found. Table (record { 0 = found.0 })) table (View (record { 0 = number_found view })))
    → IsBaseOf schema (option_map_or (λ found. Table (record { 0 = found.0 })) table (View (record { 0 = number_found view })))
base-one schema grouped None view some there = absurd (cc)
base-one schema grouped (Some table) view some there = there

base-by_join : (schema : Schema) (items : Items) (from : NameBytes) (join : Option Join) (condition : Option Cond) (group : Option ColRef) (order : Option Order)
    → no_table schema from ≡ []
    → IsThere schema (bound_select schema (record { items = items; from = from; join = join; cond = condition; group = group; order = order }))
    → IsBaseOf schema (bound_select schema (record { items = items; from = from; join = join; cond = condition; group = group; order = order })).source
unfolding bound_select
base-by_join schema items from None condition group order none there =
    base-one schema _ (table_named schema from) (view_named schema from) (none-if (is_none (table_named schema from)) (NoTable from) none) there
base-by_join schema items from (Some join) condition group order none there = there

none-told : (schema : Schema) (select : Select) → select_faults schema select ≡ [] → lowest (select_faults schema select) ≡ None
unfolding lowest
none-told schema select none = ap lowest none

-- so the new view does
pub base-by_tables : (schema : Schema) (view : CreateView) → view_faults schema view ≡ [] → IsBaseOf schema (new_view schema view).query.source
unfolding view_faults new_view
base-by_tables schema view none =
    let select = view.select in
    let both : no_table schema select.from ++ select_faults schema select ≡ [] = none-first _ _ (none-first _ _ (none-first _ _ none)) in
    base-by_join schema select.items select.from select.join select.cond select.group select.order (none-first (no_table schema select.from) (select_faults schema select) both)
    (source_is_there schema select (none-told schema select (none-last (no_table schema select.from) (select_faults schema select) both)))
