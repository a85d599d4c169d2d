-- What is kept for a view are the rows of its query.
use Rattle.std.proofs.Common.{◌≡◌, ℕ, zero, suc, ◌<◌, ◌≤◌, refl, sym, ◌∙◌, ap, subst, List, [], ◌∷◌, map, length, drop, Option, Some, None, arith}
use Rattle.std.specs.Prelude.{Bool, true, false, slice_get, filter, if◌then◌else◌}
use Rattle.std.specs.List.{AllByRecursion as Each}
use Rattle.std.specs.Option.{option_map_or}
use Rattle.std.proofs.lemmas.List.{length-map, map-append}
use Rattle.own_base.specs.declared.number.ColNo.{ColNo}
use Rattle.own_base.specs.declared.number.ViewNo.{ViewNo}
use Rattle.own_model.specs.declared.bound.BoundSelect.{BoundSelect}
use Rattle.own_model.specs.declared.bound.Source1.{Source1}
use Rattle.own_model.specs.declared.bound.Source1.TheVariants.{Pair, Table, View}
use Rattle.own_model.specs.declared.schema.ViewDef.{ViewDef}
use Rattle.own_model.specs.Db.{Db, IsOrdered, Row}
use Rattle.own_model.specs.Stored.{rows_at}
use Rattle.page_model.specs.Rising.{IsRising}
use Rattle.query_model.specs.Query.{base_rows, grouped, in_order, joined, projected, selected, source_rows, view_rows}
use Rattle.query_model.specs.Truth.{keeps}
use Rattle.view_deltas.specs.Kept.{entries_of, IsKept, IsKeptFor, StandsFor}
use Rattle.view_deltas.specs.Place.{Place, place_cmp}
use Rattle.view_deltas.specs.ViewOf.{AreViewsOf, HoldNoSums, IsSourceOf, IsViewOf}
use Rattle.view_deltas.specs.declared.kept_view.KeptView.{KeptView}
use Rattle.view_deltas.specs.declared.kept_view.KeptView.TheVariants.{Grouped, Joined, Plain}
use Rattle.view_deltas.proofs.EntryLemmas.{place_of}
use Rattle.view_deltas.proofs.GroupRows.{group_rows_are}
use Rattle.view_deltas.proofs.JoinRows.{join_rows}
use Rattle.view_deltas.proofs.LeadLemmas.{rows_of_table, stored_at}
use Rattle.view_deltas.proofs.PlainRows.{plain_rows}
use Rattle.view_deltas.proofs.ViewLemmas.{there}

abbrev row_of : Place × Row → Row
row_of entry = entry.1

module _ (query : BoundSelect) (rows : List Row) (unordered : query.order ≡ None) where
  plain_selected : query.grouped ≡ false → selected query rows ≡ map (projected query.items) (filter (keeps query.cond) rows)
  unfolding selected
  plain_selected plain =
      ap (λ (b : Bool). if b then in_order query.order (grouped query.items query.group (filter (keeps query.cond) rows)) else map (projected query.items) (in_order query.order (filter (keeps query.cond) rows))) plain
      ∙ ap (λ (order : Option (ColNo × Bool)). map (projected query.items) (in_order order (filter (keeps query.cond) rows))) unordered

  grouped_selected : query.grouped ≡ true → selected query rows ≡ grouped query.items query.group (filter (keeps query.cond) rows)
  unfolding selected
  grouped_selected by =
      ap (λ (b : Bool). if b then in_order query.order (grouped query.items query.group (filter (keeps query.cond) rows)) else map (projected query.items) (in_order query.order (filter (keeps query.cond) rows))) by
      ∙ ap (λ (order : Option (ColNo × Bool)). in_order order (grouped query.items query.group (filter (keeps query.cond) rows))) unordered

-- what holds of each of some holds of the one of a number
each_at : {X : Type 0} (P : X → Type 0) (xs : List X) (n : ℕ) (x : X) → Each P xs → slice_get xs n ≡ Some x → P x
each_at {X} P [] n x all is = let never : ◌≡◌ {A = Option X} None (Some x) = is in absurd (cc)
each_at P (first ∷ xs) zero x all is = let same : first ≡ x = cc in subst P same all.0
each_at P (first ∷ xs) (suc n) x all is = each_at P xs n x all.1 is

pub got_within : {X : Type 0} (xs : List X) (n : ℕ) (x : X) → slice_get xs n ≡ Some x → n < length xs
got_within {X} [] n x is = let never : ◌≡◌ {A = Option X} None (Some x) = is in absurd (cc)
got_within (first ∷ xs) zero x is = omega arith
got_within (first ∷ xs) (suc n) x is = omega (arith, got_within xs n x is)

none_past : {X : Type 0} (xs : List X) (n : ℕ) → slice_get xs n ≡ None → length xs ≤ n
none_past [] n none = omega arith
none_past {X} (first ∷ xs) zero none = let never : ◌≡◌ {A = Option X} (Some first) None = none in absurd (cc)
none_past (first ∷ xs) (suc n) none = omega (arith, none_past xs n none)

past_none : {X : Type 0} (xs : List X) (n : ℕ) → length xs ≤ n → slice_get xs n ≡ None
past_none [] n past = refl
past_none (first ∷ xs) zero past = absurd (omega arith)
past_none (first ∷ xs) (suc n) past = past_none xs n (omega arith)

module _ (db : Db) (ordered : IsOrdered db) (stored : HoldNoSums db.rows) where
  kept_by : (query : BoundSelect) → query.order ≡ None → (source : Source1) → IsSourceOf db.schema query.grouped source → (one : KeptView) → IsKept db query source one → IsRising place_of place_cmp (entries_of one)
      → map row_of (entries_of one) ≡ selected query (base_rows db.rows source)
  kept_by query unordered (Table number) within (Plain entries) kept rises =
      let own = there db.schema.tables number.0 within in
      plain_rows own.0 query (rows_at db.rows number.0) entries (rows_of_table db number.0 own.0 ordered stored own.1).rise rises (kept.1 own.0 own.1)
      ∙ sym (plain_selected query (rows_at db.rows number.0) unordered kept.0)
  kept_by query unordered (Table number) within (Grouped groups) kept rises =
      group_rows_are query (rows_at db.rows number.0) groups (stored_at db.rows number.0 stored) rises kept.1 ∙ sym (grouped_selected query (rows_at db.rows number.0) unordered kept.0)
  kept_by query unordered (Table number) within (Joined joined) kept rises = absurd kept
  kept_by query unordered (View view) within one kept rises = absurd within
  kept_by query unordered (Pair left right left_column right_column) within (Plain entries) kept rises = absurd kept
  kept_by query unordered (Pair left right left_column right_column) within (Grouped groups) kept rises = absurd kept
  kept_by query unordered (Pair left right left_column right_column) within (Joined pairs) kept rises =
      let one = there db.schema.tables left.0 within.0 in
      let two = there db.schema.tables right.0 within.1 in
      join_rows one.0 two.0 query left right left_column right_column (rows_at db.rows right.0) (rows_at db.rows left.0) pairs.entries
      (rows_of_table db right.0 two.0 ordered stored two.1).rise (rows_of_table db left.0 one.0 ordered stored one.1).rise rises (kept one.0 two.0 one.1 two.1).pairs
      ∙ sym (plain_selected query (joined left_column.0 right_column.0 (rows_at db.rows left.0) (rows_at db.rows right.0)) unordered within.2)

  kept_rows : (view : ViewDef) → IsViewOf db.schema view → (one : KeptView) → IsKeptFor db view one → IsRising place_of place_cmp (entries_of one) → map row_of (entries_of one) ≡ view_rows db.rows view
  unfolding view_rows
  kept_rows view is one kept rises = kept_by view.query is.unordered view.query.source is.source one kept rises

  module _ (views : AreViewsOf db.schema) (kept : List KeptView) (stands : StandsFor db kept) (view : ViewNo) where
    -- where something is kept of this number, that are the rows of the view
    pub shown_rows : (one : KeptView) → slice_get kept view.0 ≡ Some one → IsRising place_of place_cmp (entries_of one) → map row_of (entries_of one) ≡ source_rows db.schema db.rows (View view)
    shown_rows one is rises =
        let within = got_within kept view.0 one is in
        let own = there db.schema.views view.0 (omega (arith, within, stands.count)) in
        kept_rows own.0 (each_at (IsViewOf db.schema) db.schema.views view.0 own.0 views own.1) one (stands.each view.0 own.0 one own.1 is) rises
        ∙ ap (λ (o : Option ViewDef). option_map_or (view_rows db.rows) o []) (sym own.1)

    -- and where nothing is there is no such view
    pub no_view : slice_get kept view.0 ≡ None → source_rows db.schema db.rows (View view) ≡ []
    no_view none =
        ap (λ (o : Option ViewDef). option_map_or (view_rows db.rows) o []) (past_none db.schema.views view.0 (omega (arith, none_past kept view.0 none, stands.count)))

pub count_rows : (entries : List (Place × Row)) (rows : List Row) → map row_of entries ≡ rows → length entries ≡ length rows
count_rows entries rows are = sym (length-map entries row_of) ∙ ap length are

-- What is kept for the views so far.
pub record MadeSoFar (db : Db) (views : List ViewDef) (number : ℕ) (made : List KeptView) : Type 0 where
  pub count : length made ≡ number
  pub each : (place : ℕ) (view : ViewDef) (one : KeptView) → slice_get views place ≡ Some view → slice_get made place ≡ Some one → IsKeptFor db view one
