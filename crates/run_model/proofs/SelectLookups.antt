-- What a SELECT shows depends on the rows of its items alone.
use Rattle.std.proofs.Common.{◌≡◌, List, [], ◌∷◌, Bool, true, false, Option, Some, None, refl, ap}
use Rattle.std.specs.Prelude.{slice_get, nat_lt, if◌then◌else◌}
use Rattle.std.specs.List.{AllByRecursion as Each, filter}
use Rattle.std.specs.Option.{option_map_or}
use Rattle.own_base.specs.declared.number.TableNo.{TableNo}
use Rattle.own_model.specs.declared.bound.BoundSelect.{BoundSelect}
use Rattle.own_model.specs.declared.bound.Source1.{Source1}
use Rattle.own_model.specs.declared.bound.Source1.TheVariants.{Pair, Table, View}
use Rattle.own_model.specs.declared.schema.ViewDef.{ViewDef}
use Rattle.own_model.specs.Db.{Db, Row}
use Rattle.own_model.specs.Stored.{rows_at}
use Rattle.query_model.specs.Footprints.{base_items, both, item, select_items}
use Rattle.query_model.specs.Query.{base_rows, query_rows, selected, source_rows, view_rows}
use Rattle.query_model.specs.Truth.{keeps}
use Rattle.run_model.specs.Agree.{AgreeOn}
use Rattle.run_model.proofs.PinnedRows.{same-kept}
use Rattle.run_model.proofs.TableRows.{AreInPlace}

-- a select sees of its source the rows that it keeps
selected_by_kept : (query : BoundSelect) (rows others : List Row) → filter (keeps query.cond) rows ≡ filter (keeps query.cond) others → selected query rows ≡ selected query others
unfolding selected
selected_by_kept query rows others same = rw same refl

module _ (db other : Db) (schema : db.schema ≡ other.schema) (place : AreInPlace db) (places : AreInPlace other) where
  -- two tables, whole
  both_same : (left right : TableNo) → Each (AgreeOn db other) (both left right) → (rows_at db.rows left.0 ≡ rows_at other.rows left.0) × (rows_at db.rows right.0 ≡ rows_at other.rows right.0)
  both_same left right agree = by (nat_lt right.0 left.0) agree
    where
      by : (b : Bool) → Each (AgreeOn db other) (if b then item right None false ∷ item left None false ∷ [] else item left None false ∷ item right None false ∷ [])
          → (rows_at db.rows left.0 ≡ rows_at other.rows left.0) × (rows_at db.rows right.0 ≡ rows_at other.rows right.0)
      by true agree = (agree.1.0, agree.0)
      by false agree = (agree.0, agree.1.0)

  -- the rows of a table or of a join
  base_same : (source : Source1) → Each (AgreeOn db other) (base_items source) → base_rows db.rows source ≡ base_rows other.rows source
  base_same (Table table) agree = agree.0
  base_same (Pair left right left_column right_column) agree =
      let two = both_same left right agree in
      rw (two.0, two.1) refl
  base_same (View view) agree = refl

  -- those of a view
  view_same : (found : Option ViewDef) → Each (AgreeOn db other) (option_map_or (λ (view : ViewDef). base_items view.query.source) found [])
      → option_map_or (view_rows db.rows) found [] ≡ option_map_or (view_rows other.rows) found []
  unfolding view_rows
  view_same None agree = refl
  view_same (Some view) agree = ap (selected view.query) (base_same view.query.source agree)

  -- the rows of a select
  query_same : (query : BoundSelect) (source : Source1) → query.source ≡ source → Each (AgreeOn db other) (select_items db.schema query)
      → selected query (source_rows db.schema db.rows source) ≡ selected query (source_rows db.schema other.rows source)
  query_same query (Table table) is agree =
      selected_by_kept query (rows_at db.rows table.0) (rows_at other.rows table.0) (same-kept db other schema place places table query.cond false (rw is at agree).0)
  query_same query (Pair left right left_column right_column) is agree = ap (selected query) (base_same (Pair left right left_column right_column) (rw is at agree))
  query_same query (View view) is agree = ap (selected query) (view_same (slice_get db.schema.views view.0) (rw is at agree))

  pub same-query : (query : BoundSelect) → Each (AgreeOn db other) (select_items db.schema query) → query_rows db.schema db.rows query ≡ query_rows other.schema other.rows query
  unfolding query_rows
  same-query query agree = rw (← schema) (query_same query query.source refl agree)
