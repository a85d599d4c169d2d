-- A transaction that leaves the tables which a view or a SELECT reads leaves what it shows.
use Rattle.std.proofs.Common.{◌≡◌, List, [], sym, ap, subst, ◌∙◌}
use Rattle.std.specs.Prelude.{Option, Some, slice_get}
use Rattle.std.specs.Option.{option_map_or}
use Rattle.own_base.specs.declared.number.ColNo.{ColNo}
use Rattle.own_base.specs.declared.number.TableNo.{TableNo}
use Rattle.own_base.specs.declared.number.ViewNo.{ViewNo}
use Rattle.own_model.specs.declared.bound.BoundSelect.{BoundSelect}
use Rattle.own_model.specs.declared.bound.Source1.{Source1}
use Rattle.own_model.specs.declared.bound.Source1.TheVariants.{Pair, Table, View}
use Rattle.own_model.specs.declared.schema.ViewDef.{ViewDef}
use Rattle.own_model.specs.Db.{Db, Row}
use Rattle.query_model.specs.Query.{base_rows, joined, query_rows, selected, source_rows, view_rows}
use Rattle.own_model.specs.declared.schema.Schema.{Schema}
use Rattle.txn_space.specs.declared.entry.Entry.{Entry}
use Rattle.txn_space.specs.Changed.{changed_db}
use Rattle.txn_space.specs.Entries.{entries_at}
use Rattle.txn_space.proofs.OverLemmas.{rows_of_other}
use Rattle.schema_model.proofs.Places.{all-at}
use Rattle.readable_model.specs.Sources.{IsSourceThere, IsThere}
use Rattle.query_eval.specs.Sources.{IsBaseOf}
use Rattle.query_eval.specs.Views.{ReadsTables}
use Rattle.txn_core.specs.Runs.{IsStore}

module _ (db : Db) (space : List (List Entry)) (store : IsStore db) (number : ViewNo) (view : ViewDef) (is : slice_get db.schema.views number.0 ≡ Some view) where
  abbrev after : Db
  after = changed_db db space

  -- what a view shows is told by the rows that it reads
  by_base : base_rows after.rows view.query.source ≡ base_rows db.rows view.query.source → source_rows db.schema after.rows (View number) ≡ source_rows db.schema db.rows (View number)
  unfolding view_rows
  by_base same =
      ap (λ (o : Option ViewDef). option_map_or (view_rows after.rows) o []) is
      ∙ (ap (selected view.query) same
      ∙ ap (λ (o : Option ViewDef). option_map_or (view_rows db.rows) o []) (sym is))

  reads : (source : Source1) → view.query.source ≡ source → IsBaseOf db.schema source
  reads source same = rw (← same) (all-at (ReadsTables db.schema) db.schema.views store.views number.0 view is)

  pub left_of_table : (table : TableNo) → view.query.source ≡ Table table → entries_at space table.0 ≡ [] → source_rows db.schema after.rows (View number) ≡ source_rows db.schema db.rows (View number)
  left_of_table table same none =
      by_base (rw same (rows_of_other db.schema.tables db.rows space table.0 store.rising (reads (Table table) same) none))

  pub left_of_pair : (left right : TableNo) (left_column right_column : ColNo) → view.query.source ≡ Pair left right left_column right_column → entries_at space left.0 ≡ [] → entries_at space right.0 ≡ []
      → source_rows db.schema after.rows (View number) ≡ source_rows db.schema db.rows (View number)
  left_of_pair left right left_column right_column same no_left no_right =
      let there = reads (Pair left right left_column right_column) same in
      let lefts = rows_of_other db.schema.tables db.rows space left.0 store.rising there.0 no_left in
      let rights = rows_of_other db.schema.tables db.rows space right.0 store.rising there.1 no_right in
      by_base (rw same (λ i. joined left_column.0 right_column.0 (lefts i) (rights i)))

-- so a SELECT from it has the same rows
pub query_left : (schema : Schema) (rows before : List (List Row)) (query : BoundSelect) (number : ViewNo) → query.source ≡ View number
    → source_rows schema rows (View number) ≡ source_rows schema before (View number) → query_rows schema rows query ≡ query_rows schema before query
unfolding query_rows
query_left schema rows before query number is same = ap (selected query) (ap (source_rows schema rows) is ∙ (same ∙ sym (ap (source_rows schema before) is)))

-- and a SELECT from tables that the transaction left
module _ (db : Db) (space : List (List Entry)) (store : IsStore db) (query : BoundSelect) (there : IsThere db.schema query) where
  by_source : (source : Source1) → query.source ≡ source → source_rows db.schema (changed_db db space).rows source ≡ source_rows db.schema db.rows source → query_rows db.schema (changed_db db space).rows query ≡ query_rows db.schema db.rows query
  unfolding query_rows
  by_source source is same = ap (selected query) (ap (source_rows db.schema (changed_db db space).rows) is ∙ (same ∙ sym (ap (source_rows db.schema db.rows) is)))

  pub table_left : (table : TableNo) → query.source ≡ Table table → entries_at space table.0 ≡ [] → query_rows db.schema (changed_db db space).rows query ≡ query_rows db.schema db.rows query
  table_left table is none =
      let within : IsSourceThere db.schema query.grouped (Table table) = subst (IsSourceThere db.schema query.grouped) is there in
      by_source (Table table) is (rows_of_other db.schema.tables db.rows space table.0 store.rising within none)

  pub join_left : (left right : TableNo) (left_column right_column : ColNo) → query.source ≡ Pair left right left_column right_column → entries_at space left.0 ≡ [] → entries_at space right.0 ≡ []
      → query_rows db.schema (changed_db db space).rows query ≡ query_rows db.schema db.rows query
  join_left left right left_column right_column is no_left no_right =
      let within : IsSourceThere db.schema query.grouped (Pair left right left_column right_column) = subst (IsSourceThere db.schema query.grouped) is there in
      let lefts = rows_of_other db.schema.tables db.rows space left.0 store.rising within.0 no_left in
      let rights = rows_of_other db.schema.tables db.rows space right.0 store.rising within.1 no_right in
      by_source (Pair left right left_column right_column) is (λ i. joined left_column.0 right_column.0 (lefts i) (rights i))
