-- What the views of a database read that statements leave, and that its rows hold no sums.
use Rattle.std.proofs.Common.{◌≡◌, ◌≤◌, ℕ, List, [], ◌∷◌, length, inl, inr, refl, subst, arith}
use Rattle.std.specs.Prelude.{Bool, Option, None, Some, Ok}
use Rattle.std.specs.List.{AllByRecursion}
use Rattle.std.specs.Option.{option_map_or}
use Rattle.std.proofs.lemmas.List.{length-append}
use Rattle.std.proofs.lemmas.List.Elements.{All-weaker, recursion_from_All}
use Rattle.own_model.specs.declared.bound.Source1.{Source1}
use Rattle.own_model.specs.declared.bound.Source1.TheVariants.{Pair, Table, View}
use Rattle.own_model.specs.declared.condition.Cond.{Cond}
use Rattle.own_model.specs.declared.create.CreateView.{CreateView}
use Rattle.own_model.specs.declared.schema.Schema.{Schema}
use Rattle.own_model.specs.declared.schema.TableDef.{TableDef}
use Rattle.own_model.specs.declared.schema.ViewDef.{ViewDef}
use Rattle.own_model.specs.declared.select.ColRef.{ColRef}
use Rattle.own_model.specs.declared.select.Items.{Items}
use Rattle.own_model.specs.declared.select.Join.{Join}
use Rattle.own_model.specs.declared.select.Order.{Order}
use Rattle.own_model.specs.declared.statement.Statement.TheVariants as statement
use Rattle.own_model.specs.Db.{Db}
use Rattle.grammar_model.specs.Readable.{IsWritten}
use Rattle.schema_model.specs.NewTable.{new_table}
use Rattle.schema_model.specs.WithTable.{with_table}
use Rattle.schema_model.proofs.Places.{all-append, all-weaker}
use Rattle.query_model.specs.BoundView.{bound_view, new_view, view_faults}
use Rattle.query_model.specs.Scope.{NameBytes, table_named}
use Rattle.query_model.specs.SelectMeaning.{bound_select}
use Rattle.query_model.specs.Stored.{AreStored, IsStoredRow}
use Rattle.query_model.proofs.NoFaults.{none-lowest}
use Rattle.query_model.proofs.ViewFaults.{view-given}
use Rattle.query_eval.specs.Sources.{IsBaseOf}
use Rattle.state_model.specs.Create.{with_view}
use Rattle.state_model.specs.Created.{Create, IsAdmitted, IsCreated, IsReadableCreate, OfTable, OfView, with_create}
use Rattle.state_model.specs.Sound.{IsWellFormed}
use Rattle.state_model.proofs.CreatedLemmas.{kept-created}
use Rattle.state_model.proofs.StoredRows.{all_stored}
use Rattle.view_deltas.specs.ViewOf.{AreViewsOf, HoldNoSums, IsSourceOf, IsViewOf}
use Rattle.view_select.proofs.TableSources.{base-by_tables}
use Rattle.view_select.proofs.ViewSelects.{IsOfView, written_of_view}

-- what was there is there among more tables
source-more : (schema after : Schema) (grouped : Bool) (source : Source1) → length schema.tables ≤ length after.tables → IsSourceOf schema grouped source → IsSourceOf after grouped source
source-more schema after grouped (Table table) more there = omega (arith, more, there)
source-more schema after grouped (Pair left right left_column right_column) more there = let first = there.0 in let second = there.1 in (omega (arith, more, first), omega (arith, more, second), there.2)
source-more schema after grouped (View view) more there = there

view-more : (schema after : Schema) → length schema.tables ≤ length after.tables → (view : ViewDef) → IsViewOf schema view → IsViewOf after view
view-more schema after more view is = record { source = source-more schema after view.query.grouped view.query.source more is.source; unordered = is.unordered }

views-more : (schema after : Schema) (views : List ViewDef) → length schema.tables ≤ length after.tables → AllByRecursion (IsViewOf schema) views → AllByRecursion (IsViewOf after) views
views-more schema after views more all = all-weaker (IsViewOf schema) (IsViewOf after) (view-more schema after more) views all

-- one table isn't a join
of_one : (schema : Schema) (grouped : Bool) (table : Option (ℕ × TableDef)) (number : ℕ) → IsBaseOf schema (option_map_or (λ found. Table (record { 0 = found.0 })) table (View (record { 0 = number })))
    → IsSourceOf schema grouped (option_map_or (λ found. Table (record { 0 = found.0 })) table (View (record { 0 = number })))
of_one schema grouped None number base = absurd base
of_one schema grouped (Some table) number base = base

-- and a join is not grouped
of_join : (schema : Schema) (items : Items) (from : NameBytes) (join : Option Join) (condition : Option Cond) (group : Option ColRef) (order : Option Order)
    → IsOfView (record { items = items; from = from; join = join; cond = condition; group = group; order = order })
    → IsBaseOf schema (bound_select schema (record { items = items; from = from; join = join; cond = condition; group = group; order = order })).source
    → IsSourceOf schema (bound_select schema (record { items = items; from = from; join = join; cond = condition; group = group; order = order })).grouped
    (bound_select schema (record { items = items; from = from; join = join; cond = condition; group = group; order = order })).source
unfolding bound_select
of_join schema items from None condition group order of base = of_one schema _ (table_named schema from) _ base
of_join schema items from (Some join) condition group order (_, inl plain) base = (base.0, base.1, plain)
of_join schema items from (Some join) condition group order (_, inr none) base = absurd (let never : ◌≡◌ {A = Option Join} (Some join) None = none in cc)

-- so the query of a CREATE VIEW that is admitted is that of a view
new-of_view : (schema : Schema) (view : CreateView) → IsOfView view.select → view_faults schema view ≡ [] → IsViewOf schema (new_view schema view)
unfolding new_view bound_select
new-of_view schema view of none =
    let select = view.select in
    record {
      source = of_join schema select.items select.from select.join select.cond select.group select.order of (base-by_tables schema view none);
      unordered = rw of.0 refl;
    }

-- and so is the one that binding gives
pub bound-of_view : (schema : Schema) (create : CreateView) (most : ℕ) (view : ViewDef) → IsWritten most (statement.CreateView create) → bound_view schema create ≡ Ok view → IsViewOf schema view
bound-of_view schema create most view written bound =
    let is = view-given schema create view bound in
    subst (IsViewOf schema) is.1 (new-of_view schema create (written_of_view most create written) (none-lowest (view_faults schema create) is.0))

views-kept : (schema : Schema) (create : Create) → AreViewsOf schema → IsReadableCreate create → IsAdmitted schema create → AreViewsOf (with_create schema create)
unfolding with_table with_view
views-kept schema (OfTable table) are readable admitted =
    let long = length-append schema.tables (new_table schema table ∷ []) in
    views-more schema (with_table schema table) schema.views (omega (arith, long)) are
views-kept schema (OfView view) are readable admitted =
    let faultless = none-lowest (view_faults schema view) admitted in
    let more : length schema.tables ≤ length (with_view schema view).tables = omega arith in
    all-append (IsViewOf (with_view schema view)) schema.views (new_view schema view ∷ []) (views-more schema (with_view schema view) schema.views more are)
    (view-more schema (with_view schema view) more (new_view schema view) (new-of_view schema view (written_of_view _ view readable.written) faultless), tt)

pub views_of-created : (db : Db) → IsCreated db → AreViewsOf db.schema
views_of-created = kept-created AreViewsOf views-kept tt

-- rows that may stand in tables hold no sums
pub no_sums : (db : Db) → IsWellFormed db → HoldNoSums db.rows
no_sums db is =
    recursion_from_All (AllByRecursion IsStoredRow) db.rows
    (All-weaker AreStored (AllByRecursion IsStoredRow) (λ rows all. recursion_from_All IsStoredRow rows all) db.rows (all_stored db.schema.tables db.rows is.rows))
