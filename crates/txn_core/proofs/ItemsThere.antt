-- The items of a footprint: they are of tables that are there, and the one in whose way a session stands is one of them.
use Rattle.std.proofs.Common.{◌≡◌, ◌<◌, ℕ, List, [], ◌∷◌, Bool, true, false, Option, None, Some, ap, length, map, refl, subst}
use Rattle.std.specs.Prelude.{filter_map, nat_lt, option_map, slice_get, if◌then◌else◌}
use Rattle.std.specs.List.{AllByRecursion as Each, cons_option, list_any}
use Rattle.std.specs.Option.{option_map_or}
use Rattle.own_base.specs.declared.number.TableNo.{TableNo}
use Rattle.own_base.specs.declared.value.Key.{Key}
use Rattle.own_model.specs.declared.bound.Bound.{Bound}
use Rattle.own_model.specs.declared.bound.Bound.TheVariants.{Delete, Explain, Forget, Get, Insert, Select, Update}
use Rattle.own_model.specs.declared.bound.BoundSelect.{BoundSelect}
use Rattle.own_model.specs.declared.bound.Source1.{Source1}
use Rattle.own_model.specs.declared.bound.Source1.TheVariants.{Pair, Table, View}
use Rattle.own_model.specs.declared.footprint.FootItem.{FootItem}
use Rattle.own_model.specs.declared.schema.Schema.{Schema}
use Rattle.own_model.specs.declared.schema.ViewDef.{ViewDef}
use Rattle.query_model.specs.Footprints.{base_items, both, footprint_of, item, keys_of, select_items}
use Rattle.query_eval.specs.Sources.{IsBaseOf}
use Rattle.readable_model.specs.Sources.{IsSourceThere}
use Rattle.run_model.specs.Agree.{overlaps}
use Rattle.run_model.proofs.FoundRows.{found_has}
use Rattle.history_model.specs.Held.{Holding, first_holding, first_overlap, others}
use Rattle.row_locks.specs.RepresentsItems.{holder_among, holding_among}
use Rattle.schema_model.proofs.Places.{all-at}
use Rattle.write_eval.specs.Write.{IsWrite}
use Rattle.txn_core.specs.Runs.{IsRowStatement}
use Rattle.txn_core.specs.Transactions.{AreItemsOf}
use Rattle.query_eval.specs.Views.{AreViewsThere, ReadsTables}

module _ (schema : Schema) where
  both_there : (left right : TableNo) → left.0 < length schema.tables → right.0 < length schema.tables → AreItemsOf schema (both left right)
  both_there left right one other = by (nat_lt right.0 left.0)
    where
      by : (b : Bool) → AreItemsOf schema (if b then item right None false ∷ item left None false ∷ [] else item left None false ∷ item right None false ∷ [])
      by true = (other, (one, tt))
      by false = (one, (other, tt))

  base_there : (source : Source1) → IsBaseOf schema source → AreItemsOf schema (base_items source)
  base_there (Table table) there = (there, tt)
  base_there (Pair left right left_column right_column) there = both_there left right there.0 there.1
  base_there (View view) there = absurd there

  view_there : (found : Option ViewDef) → ((view : ViewDef) → found ≡ Some view → IsBaseOf schema view.query.source)
      → AreItemsOf schema (option_map_or (λ (view : ViewDef). base_items view.query.source) found [])
  view_there None there = tt
  view_there (Some view) there = base_there view.query.source (there view refl)

  select_there : (query : BoundSelect) (source : Source1) → query.source ≡ source → AreViewsThere schema → IsSourceThere schema query.grouped source → AreItemsOf schema (select_items schema query)
  select_there query (Table table) is views there = rw is (there, tt)
  select_there query (Pair left right left_column right_column) is views there = rw is (both_there left right there.0 there.1)
  select_there query (View view) is views there = rw is (view_there (slice_get schema.views view.0) (all-at (ReadsTables schema) schema.views views view.0))

  keys_there : (table : TableNo) → table.0 < length schema.tables → (keys : List Key) → AreItemsOf schema (map (λ key. item table (Some key) true) keys)
  keys_there table there [] = tt
  keys_there table there (key ∷ keys) = (there, keys_there table there keys)

  -- the items of a write
  pub write_items_there : (bound : Bound) → IsWrite schema bound → AreItemsOf schema (footprint_of schema bound)
  unfolding footprint_of
  write_items_there (Select query) is = absurd is
  write_items_there (Insert table tuples) is = keys_there table is (keys_of schema table tuples)
  write_items_there (Update table sets cond) is = (is.0, tt)
  write_items_there (Delete table cond) is = (is, tt)
  write_items_there (Get subject) is = absurd is
  write_items_there (Forget subject) is = absurd is
  write_items_there Explain is = absurd is

  -- and of any statement of rows
  pub row_items_there : (bound : Bound) → AreViewsThere schema → IsRowStatement schema bound → AreItemsOf schema (footprint_of schema bound)
  unfolding footprint_of
  row_items_there (Select query) views is = select_there query query.source refl views is
  row_items_there (Insert table tuples) views is = write_items_there (Insert table tuples) is
  row_items_there (Update table sets cond) views is = write_items_there (Update table sets cond) is
  row_items_there (Delete table cond) views is = write_items_there (Delete table cond) is
  row_items_there (Get subject) views is = absurd is
  row_items_there (Forget subject) views is = absurd is
  row_items_there Explain views is = absurd is

module _ (P : FootItem → Type 0) (held : ℕ → List FootItem) (footprint : List FootItem) (each : Each P footprint) (holding : Holding) where
  among : (sessions : List ℕ) → first_holding (filter_map (holding_among held footprint) sessions) ≡ Some holding → P holding.item
  among [] is = absurd (cc)
  among (session ∷ sessions) is = by (first_overlap (held session) footprint) refl (among sessions) is
    where
      by : (found : Option FootItem) → first_overlap (held session) footprint ≡ found
          → (first_holding (filter_map (holding_among held footprint) sessions) ≡ Some holding → P holding.item)
          → first_holding (cons_option (option_map (λ (item : FootItem). record { session = session; item = item }) found) (filter_map (holding_among held footprint) sessions)) ≡ Some holding → P holding.item
      by None none more is = more is
      by (Some item) found more is =
          let same : ◌≡◌ {A = Holding} (record { session = session; item = item }) holding = cc in
          subst P (ap (λ (one : Holding). one.item) same) (found_has (λ item. list_any (overlaps item) (held session)) P footprint each item found).1

  -- what holds of each item of a footprint holds of the one that is held
  pub held_item : (session : ℕ) → holder_among held session footprint ≡ Some holding → P holding.item
  unfolding holder_among
  held_item session is = among (others session) is
