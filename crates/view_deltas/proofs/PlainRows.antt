-- What is kept for a plain view are the rows of its query.
use Rattle.std.proofs.Common.{◌≡◌, refl, sym, ◌∙◌, ap, List, [], ◌∷◌, map, Some, None}
use Rattle.std.specs.Prelude.{Bool, true, false, cond, filter}
use Rattle.std.specs.Option.{option_and_then}
use Rattle.std.specs.Ordering.{is_eq, ordering_then}
use Rattle.std.specs.declared.cmp.Ordering.TheVariants.{Equal}
use Rattle.own_base.specs.Key.{key_cmp}
use Rattle.own_base.specs.declared.value.Key.{Key}
use Rattle.own_model.specs.declared.bound.BoundSelect.{BoundSelect}
use Rattle.own_model.specs.declared.schema.TableDef.{TableDef}
use Rattle.own_model.specs.Db.{Row, key_of}
use Rattle.own_model.proofs.KeyOrder.{key_order}
use Rattle.page_model.specs.Found.{found}
use Rattle.page_model.specs.Rising.{IsRising}
use Rattle.page_model.proofs.RisingLemmas.{rising_tail}
use Rattle.query_model.specs.Query.{projected}
use Rattle.query_model.specs.Truth.{keeps}
use Rattle.view_deltas.specs.Entries.{kept_at}
use Rattle.view_deltas.specs.Place.{Place, place_cmp}
use Rattle.view_deltas.specs.Plain.{KeepsPlain, plain_at}
use Rattle.view_deltas.specs.Shown.{shown_of}
use Rattle.view_deltas.specs.TableRows.{row_at}
use Rattle.view_deltas.proofs.ChangeLemmas.{rows_passing}
use Rattle.view_deltas.proofs.EntryLemmas.{place_of}
use Rattle.view_deltas.proofs.KeptLemmas.{kept_first, none_behind, rising_map, same_kept}
use Rattle.view_deltas.proofs.PlainLemmas.{then_equal, then_less}

module _ (table : TableDef) (query : BoundSelect) where
  abbrev entry_of : Row → Place × Row
  entry_of row = ((Some (key_of table row), None), projected query.items row)

  -- the rows of the query, each at its place
  abbrev plain_entries : List Row → List (Place × Row)
  plain_entries rows = map entry_of (filter (keeps query.cond) rows)

  entries_rise : (rows : List Row) → IsRising (key_of table) key_cmp rows → IsRising place_of place_cmp (plain_entries rows)
  entries_rise rows rising =
      rising_map entry_of (key_of table) key_cmp place_of place_cmp (λ one other less. ap (λ o. ordering_then o Equal) less) (filter (keeps query.cond) rows)
      (rows_passing table (keeps query.cond) rows rising)

  found_first : (key : Key) (row : Row) (rows : List Row) (b : Bool) → is_eq (key_cmp (key_of table row) key) ≡ b → row_at table (row ∷ rows) key ≡ cond b (Some row) (row_at table rows key)
  unfolding found
  found_first key row rows true tied = rw tied refl
  found_first key row rows false apart = rw apart refl

  shown_kept : (row : Row) (b : Bool) → keeps query.cond row ≡ b → shown_of query row ≡ cond b (Some (projected query.items row)) None
  unfolding shown_of
  shown_kept row true is = rw is refl
  shown_kept row false is = rw is refl

  -- at the place of a key
  at_key : (key : Key) (rows : List Row) → IsRising (key_of table) key_cmp rows → kept_at (plain_entries rows) (Some key, None) ≡ option_and_then (shown_of query) (row_at table rows key)
  unfolding kept_at found
  at_key key [] rising = refl
  at_key key (row ∷ rows) rising =
      by (keeps query.cond row) (is_eq (key_cmp (key_of table row) key)) refl refl (at_key key rows (rising_tail (key_of table) key_cmp row rows rising))
    where
      by : (b c : Bool) → keeps query.cond row ≡ b → is_eq (key_cmp (key_of table row) key) ≡ c → kept_at (plain_entries rows) (Some key, None) ≡ option_and_then (shown_of query) (row_at table rows key)
          → kept_at (map entry_of (cond b (row ∷ filter (keeps query.cond) rows) (filter (keeps query.cond) rows))) (Some key, None) ≡ option_and_then (shown_of query) (row_at table (row ∷ rows) key)
      by true true is tied more =
          kept_first (Some key, None) (entry_of row) (plain_entries rows) true (then_equal (key_cmp (key_of table row) key) ∙ tied)
          ∙ sym (ap (option_and_then (shown_of query)) (found_first key row rows true tied) ∙ shown_kept row true is)
      by true false is apart more =
          kept_first (Some key, None) (entry_of row) (plain_entries rows) false (then_equal (key_cmp (key_of table row) key) ∙ apart)
          ∙ (more ∙ sym (ap (option_and_then (shown_of query)) (found_first key row rows false apart)))
      by false true is tied more =
          more
          ∙ (ap (option_and_then (shown_of query)) (none_behind (key_of table) key_order key row rows tied rising)
          ∙ sym (ap (option_and_then (shown_of query)) (found_first key row rows true tied) ∙ shown_kept row false is))
      by false false is apart more = more ∙ sym (ap (option_and_then (shown_of query)) (found_first key row rows false apart))

  -- at no other place is anything
  nowhere : (place : Place) → ((key : Key) → is_eq (place_cmp (Some key, None) place) ≡ false) → (rows : List Row) → kept_at (map entry_of rows) place ≡ None
  unfolding kept_at found
  nowhere place apart [] = refl
  nowhere place apart (row ∷ rows) = kept_first place (entry_of row) (map entry_of rows) false (apart (key_of table row)) ∙ nowhere place apart rows

  entries_at : (rows : List Row) → IsRising (key_of table) key_cmp rows → (place : Place) → kept_at (plain_entries rows) place ≡ plain_at table query rows place
  unfolding plain_at
  entries_at rows rising (Some key, None) = at_key key rows rising
  entries_at rows rising (None, None) = nowhere (None, None) (λ key. refl) (filter (keeps query.cond) rows)
  entries_at rows rising (None, Some other) = nowhere (None, Some other) (λ key. refl) (filter (keeps query.cond) rows)
  entries_at rows rising (Some one, Some other) = nowhere (Some one, Some other) (λ key. then_less (key_cmp key one)) (filter (keeps query.cond) rows)

  rows_of : (rows : List Row) → map (λ (entry : Place × Row). entry.1) (map entry_of rows) ≡ map (projected query.items) rows
  rows_of [] = refl
  rows_of (row ∷ rows) = ap (λ rest. projected query.items row ∷ rest) (rows_of rows)

  -- so they are the rows of the query, in its order
  pub plain_rows : (rows : List Row) (entries : List (Place × Row)) → IsRising (key_of table) key_cmp rows → IsRising place_of place_cmp entries → KeepsPlain table query rows entries
      → map (λ entry. entry.1) entries ≡ map (projected query.items) (filter (keeps query.cond) rows)
  plain_rows rows entries rising rises kept =
      ap (map (λ (entry : Place × Row). entry.1)) (same_kept entries (plain_entries rows) rises (entries_rise rows rising) (λ place. kept place ∙ sym (entries_at rows rising place)))
      ∙ rows_of (filter (keeps query.cond) rows)
