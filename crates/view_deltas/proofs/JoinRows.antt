-- What is kept for a join are the rows of its query.
use Rattle.std.proofs.Common.{◌≡◌, refl, sym, ◌∙◌, ap, List, [], ◌∷◌, ◌++◌, map, Option, Some, None}
use Rattle.std.specs.Prelude.{Bool, true, false, cond, ◌&&◌, filter, flat_map}
use Rattle.std.specs.List.{AllByRecursion as Each}
use Rattle.std.specs.List.Sorted.{IsStrictlySortedBy}
use Rattle.std.specs.Option.{option_and_then, option_or}
use Rattle.std.specs.Ordering.{is_eq, ordering_then}
use Rattle.std.specs.declared.cmp.Ordering.{Ordering}
use Rattle.std.specs.declared.cmp.Ordering.TheVariants.{Less, Equal, Greater}
use Rattle.std.proofs.lemmas.Cmp.{tied_itself}
use Rattle.std.proofs.lemmas.List.Elements.{filter-append}
use Rattle.std.proofs.lemmas.List.{map-append}
use Rattle.own_base.specs.Key.{key_cmp}
use Rattle.own_base.specs.declared.number.ColNo.{ColNo}
use Rattle.own_base.specs.declared.number.TableNo.{TableNo}
use Rattle.own_base.specs.declared.value.Key.{Key}
use Rattle.own_model.specs.declared.bound.BoundSelect.{BoundSelect}
use Rattle.own_model.specs.declared.schema.TableDef.{TableDef}
use Rattle.own_model.specs.Db.{Row, key_of}
use Rattle.own_model.proofs.KeyOrder.{key_order}
use Rattle.page_model.specs.Found.{found}
use Rattle.page_model.specs.Rising.{IsRising}
use Rattle.page_model.proofs.RisingLemmas.{each_append, rising_append, rising_behind, rising_tail}
use Rattle.query_model.specs.Query.{joined, meet, pairs_of, projected}
use Rattle.query_model.specs.Truth.{keeps}
use Rattle.view_deltas.specs.Entries.{kept_at}
use Rattle.view_deltas.specs.Joined.{KeepsPairs}
use Rattle.view_deltas.specs.Kept.{from_left}
use Rattle.view_deltas.specs.Place.{Place, place_cmp}
use Rattle.view_deltas.specs.Shown.{shown_of}
use Rattle.view_deltas.specs.Sides.{joined_of, shown_if_met}
use Rattle.view_deltas.specs.TableRows.{row_at}
use Rattle.view_deltas.specs.declared.side.Joins.{Joins}
use Rattle.view_deltas.proofs.EntryLemmas.{place_of}
use Rattle.view_deltas.proofs.KeptLemmas.{kept_append, kept_first, none_behind, same_kept}

both_eq : (o p : Ordering) → is_eq (ordering_then o p) ≡ (is_eq o && is_eq p)
both_eq Less p = refl
both_eq Equal p = refl
both_eq Greater p = refl

then_greater : (o : Ordering) → is_eq (ordering_then o Greater) ≡ false
then_greater Less = refl
then_greater Equal = refl
then_greater Greater = refl

module _ (one two : TableDef) (query : BoundSelect) (left right : TableNo) (left_column right_column : ColNo) where
  abbrev on : Joins
  on = from_left left right left_column right_column

  abbrev meets : Row → Row → Bool
  meets = meet left_column.0 right_column.0

  abbrev pair_entry : Row → Row → Place × Row
  pair_entry own other = ((Some (key_of one own), Some (key_of two other)), projected query.items (own ++ other))

  abbrev passes : Row → Row → Bool
  passes own other = meets own other && keeps query.cond (own ++ other)

  -- the pairs of a left row, and of all
  abbrev part : List Row → Row → List (Place × Row)
  part rights own = map (pair_entry own) (filter (passes own) rights)

  abbrev join_entries : List Row → List Row → List (Place × Row)
  join_entries rights lefts = flat_map (part rights) lefts

  -- what is shown of a pair
  shown_passing : (own other : Row) → shown_if_met query on own other ≡ cond (passes own other) (Some (projected query.items (own ++ other))) None
  unfolding shown_of
  shown_passing own other = by (meets own other)
    where
      by : (b : Bool) → cond b (cond (keeps query.cond (own ++ other)) (Some (projected query.items (own ++ other))) None) None ≡ cond (b && keeps query.cond (own ++ other)) (Some (projected query.items (own ++ other))) None
      by true = refl
      by false = refl

  first_row : (table : TableDef) (key : Key) (row : Row) (rows : List Row) (b : Bool) → is_eq (key_cmp (key_of table row) key) ≡ b → row_at table (row ∷ rows) key ≡ cond b (Some row) (row_at table rows key)
  unfolding found
  first_row table key row rows true tied = rw tied refl
  first_row table key row rows false apart = rw apart refl

  nothing_kept : {T : Type 0} (place : Place) → kept_at {T = T} [] place ≡ None
  unfolding kept_at found
  nothing_kept place = refl

  -- at the place of two keys, among the pairs of a left row
  part_at : (own : Row) (a b : Key) (rights : List Row) → IsRising (key_of two) key_cmp rights
      → kept_at (part rights own) (Some a, Some b) ≡ cond (is_eq (key_cmp (key_of one own) a)) (option_and_then (shown_if_met query on own) (row_at two rights b)) None
  unfolding found
  part_at own a b [] rising = nothing_kept (Some a, Some b) ∙ none (is_eq (key_cmp (key_of one own) a))
    where
      none : (c : Bool) → ◌≡◌ {A = Option Row} None (cond c None None)
      none true = refl
      none false = refl
  part_at own a b (other ∷ rights) rising =
      by (passes own other) (is_eq (key_cmp (key_of one own) a)) (is_eq (key_cmp (key_of two other) b)) refl refl refl (part_at own a b rights (rising_tail (key_of two) key_cmp other rights rising))
    where
      shown : Option Row → Option Row
      shown row = option_and_then (shown_if_met query on own) row

      tie : is_eq (place_cmp (Some (key_of one own), Some (key_of two other)) (Some a, Some b)) ≡ (is_eq (key_cmp (key_of one own) a) && is_eq (key_cmp (key_of two other) b))
      tie = both_eq (key_cmp (key_of one own) a) (key_cmp (key_of two other) b)

      first : (c : Bool) → is_eq (key_cmp (key_of two other) b) ≡ c → shown (row_at two (other ∷ rights) b) ≡ shown (cond c (Some other) (row_at two rights b))
      first c is = ap shown (first_row two b other rights c is)

      by : (p c d : Bool) → passes own other ≡ p → is_eq (key_cmp (key_of one own) a) ≡ c → is_eq (key_cmp (key_of two other) b) ≡ d
          → kept_at (part rights own) (Some a, Some b) ≡ cond (is_eq (key_cmp (key_of one own) a)) (shown (row_at two rights b)) None
          → kept_at (map (pair_entry own) (cond p (other ∷ filter (passes own) rights) (filter (passes own) rights))) (Some a, Some b)
          ≡ cond (is_eq (key_cmp (key_of one own) a)) (shown (row_at two (other ∷ rights) b)) None
      by true true true pass here there more =
          kept_first (Some a, Some b) (pair_entry own other) (part rights own) true (tie ∙ (ap (λ x. x && is_eq (key_cmp (key_of two other) b)) here ∙ there))
          ∙ sym (ap (λ x. cond x (shown (row_at two (other ∷ rights) b)) None) here ∙ (first true there ∙ (shown_passing own other ∙ ap (λ x. cond x (Some (projected query.items (own ++ other))) None) pass)))
      by true true false pass here apart more =
          kept_first (Some a, Some b) (pair_entry own other) (part rights own) false (tie ∙ (ap (λ x. x && is_eq (key_cmp (key_of two other) b)) here ∙ apart))
          ∙ (more ∙ ap (λ x. cond (is_eq (key_cmp (key_of one own) a)) x None) (sym (first false apart)))
      by true false d pass apart there more =
          kept_first (Some a, Some b) (pair_entry own other) (part rights own) false (tie ∙ ap (λ x. x && is_eq (key_cmp (key_of two other) b)) apart)
          ∙ (more ∙ (ap (λ x. cond x (shown (row_at two rights b)) None) apart ∙ sym (ap (λ x. cond x (shown (row_at two (other ∷ rights) b)) None) apart)))
      by false c true fail here there more =
          more
          ∙ ap (λ x. cond (is_eq (key_cmp (key_of one own) a)) x None)
          (ap shown (none_behind (key_of two) key_order b other rights there rising)
          ∙ sym (first true there ∙ (shown_passing own other ∙ ap (λ x. cond x (Some (projected query.items (own ++ other))) None) fail)))
      by false c false fail here apart more = more ∙ ap (λ x. cond (is_eq (key_cmp (key_of one own) a)) x None) (sym (first false apart))

  -- and among all pairs
  pairs_at : (a b : Key) (rights lefts : List Row) → IsRising (key_of two) key_cmp rights → IsRising (key_of one) key_cmp lefts
      → kept_at (join_entries rights lefts) (Some a, Some b) ≡ joined_of query on (row_at one lefts a) (row_at two rights b)
  unfolding found
  pairs_at a b rights [] rises rising = nothing_kept (Some a, Some b)
  pairs_at a b rights (own ∷ lefts) rises rising =
      kept_append (Some a, Some b) (part rights own) (join_entries rights lefts)
      ∙ (ap (λ x. option_or x (kept_at (join_entries rights lefts) (Some a, Some b))) (part_at own a b rights rises)
      ∙ (ap (option_or (cond (is_eq (key_cmp (key_of one own) a)) (option_and_then (shown_if_met query on own) (row_at two rights b)) None)) (pairs_at a b rights lefts rises (rising_tail (key_of one) key_cmp own lefts rising))
      ∙ by (is_eq (key_cmp (key_of one own) a)) refl))
    where
      or_none : (o : Option Row) → option_or o None ≡ o
      or_none None = refl
      or_none (Some row) = refl

      by : (c : Bool) → is_eq (key_cmp (key_of one own) a) ≡ c
          → option_or (cond c (option_and_then (shown_if_met query on own) (row_at two rights b)) None) (joined_of query on (row_at one lefts a) (row_at two rights b))
          ≡ joined_of query on (row_at one (own ∷ lefts) a) (row_at two rights b)
      by true tied =
          ap (λ x. option_or (option_and_then (shown_if_met query on own) (row_at two rights b)) (joined_of query on x (row_at two rights b))) (none_behind (key_of one) key_order a own lefts tied rising)
          ∙ (or_none (option_and_then (shown_if_met query on own) (row_at two rights b)) ∙ ap (λ x. joined_of query on x (row_at two rights b)) (sym (first_row one a own lefts true tied)))
      by false apart = ap (λ x. joined_of query on x (row_at two rights b)) (sym (first_row one a own lefts false apart))

  -- at a place that isn't that of two keys is nothing
  part_nowhere : (place : Place) → ((a b : Key) → is_eq (place_cmp (Some a, Some b) place) ≡ false) → (own : Row) (rows : List Row) → kept_at (map (pair_entry own) rows) place ≡ None
  part_nowhere place apart own [] = nothing_kept place
  part_nowhere place apart own (other ∷ rows) = kept_first place (pair_entry own other) (map (pair_entry own) rows) false (apart (key_of one own) (key_of two other)) ∙ part_nowhere place apart own rows

  nowhere : (place : Place) → ((a b : Key) → is_eq (place_cmp (Some a, Some b) place) ≡ false) → (rights lefts : List Row) → kept_at (join_entries rights lefts) place ≡ None
  nowhere place apart rights [] = nothing_kept place
  nowhere place apart rights (own ∷ lefts) =
      kept_append place (part rights own) (join_entries rights lefts)
      ∙ (ap (λ x. option_or x (kept_at (join_entries rights lefts) place)) (part_nowhere place apart own (filter (passes own) rights)) ∙ nowhere place apart rights lefts)

  -- the pairs stand by left key, then right key
  part_rise : (own : Row) (rights : List Row) → IsRising (key_of two) key_cmp rights → IsRising place_of place_cmp (part rights own)
  unfolding IsStrictlySortedBy
  part_rise own [] rising = tt
  part_rise own (other ∷ rights) rising = by (passes own other) (part_rise own rights (rising_tail (key_of two) key_cmp other rights rising))
    where
      above : (rows : List Row) → Each (λ row. key_cmp (key_of two other) (key_of two row) ≡ Less) rows
          → Each (λ place. place_cmp (Some (key_of one own), Some (key_of two other)) place ≡ Less) (map (λ (entry : Place × Row). entry.0) (part rows own))
      above [] less = tt
      above (row ∷ rows) less = pick (passes own row) (above rows less.1)
        where
          pick : (b : Bool) → Each (λ place. place_cmp (Some (key_of one own), Some (key_of two other)) place ≡ Less) (map (λ (entry : Place × Row). entry.0) (part rows own))
              → Each (λ place. place_cmp (Some (key_of one own), Some (key_of two other)) place ≡ Less)
              (map (λ (entry : Place × Row). entry.0) (map (pair_entry own) (cond b (row ∷ filter (passes own) rows) (filter (passes own) rows))))
          pick true more = (ap (λ o. ordering_then o (key_cmp (key_of two other) (key_of two row))) (tied_itself key_order (key_of one own)) ∙ less.0, more)
          pick false more = more

      by : (b : Bool) → IsRising place_of place_cmp (part rights own) → IsRising place_of place_cmp (map (pair_entry own) (cond b (other ∷ filter (passes own) rights) (filter (passes own) rights)))
      by true more = (above rights (rising_behind (key_of two) key_cmp other rights rising), more)
      by false more = more

  -- all pairs of a lower left row stand below those of the others
  part_below : (own later : Row) → key_cmp (key_of one own) (key_of one later) ≡ Less → (other : Row) (rows : List Row)
      → Each (λ entry. place_cmp (Some (key_of one own), Some (key_of two other)) (place_of entry) ≡ Less) (map (pair_entry later) rows)
  part_below own later less other [] = tt
  part_below own later less other (row ∷ rows) = (ap (λ o. ordering_then o (key_cmp (key_of two other) (key_of two row))) less, part_below own later less other rows)

  all_below : (own : Row) (rights lefts : List Row) → Each (λ later. key_cmp (key_of one own) (key_of one later) ≡ Less) lefts → (other : Row)
      → Each (λ entry. place_cmp (Some (key_of one own), Some (key_of two other)) (place_of entry) ≡ Less) (join_entries rights lefts)
  all_below own rights [] less other = tt
  all_below own rights (later ∷ lefts) less other =
      each_append _ (part rights later) (join_entries rights lefts) (part_below own later less.0 other (filter (passes later) rights)) (all_below own rights lefts less.1 other)

  each_below : (own : Row) (rights lefts : List Row) → Each (λ later. key_cmp (key_of one own) (key_of one later) ≡ Less) lefts → (rows : List Row)
      → Each (λ x. Each (λ y. place_cmp (place_of x) (place_of y) ≡ Less) (join_entries rights lefts)) (map (pair_entry own) rows)
  each_below own rights lefts less [] = tt
  each_below own rights lefts less (other ∷ rows) = (all_below own rights lefts less other, each_below own rights lefts less rows)

  entries_rise : (rights lefts : List Row) → IsRising (key_of two) key_cmp rights → IsRising (key_of one) key_cmp lefts → IsRising place_of place_cmp (join_entries rights lefts)
  unfolding IsStrictlySortedBy
  entries_rise rights [] rises rising = tt
  entries_rise rights (own ∷ lefts) rises rising =
      rising_append place_of place_cmp (part rights own) (join_entries rights lefts) (part_rise own rights rises) (entries_rise rights lefts rises (rising_tail (key_of one) key_cmp own lefts rising))
      (each_below own rights lefts (rising_behind (key_of one) key_cmp own lefts rising) (filter (passes own) rights))

  -- and their rows are those of the query
  part_rows : (own : Row) (rights : List Row) → map (λ entry. entry.1) (part rights own) ≡ map (projected query.items) (filter (keeps query.cond) (pairs_of left_column.0 right_column.0 rights own))
  part_rows own [] = refl
  part_rows own (other ∷ rights) = by (meets own other) (keeps query.cond (own ++ other)) refl (part_rows own rights)
    where
      rest : List Row
      rest = map (λ (right : Row). own ++ right) (filter (meets own) rights)

      by : (b c : Bool) → keeps query.cond (own ++ other) ≡ c → map (λ entry. entry.1) (part rights own) ≡ map (projected query.items) (filter (keeps query.cond) rest)
          → map (λ (entry : Place × Row). entry.1) (map (pair_entry own) (cond (b && c) (other ∷ filter (passes own) rights) (filter (passes own) rights)))
          ≡ map (projected query.items) (filter (keeps query.cond) (map (λ (right : Row). own ++ right) (cond b (other ∷ filter (meets own) rights) (filter (meets own) rights))))
      by true true keep more =
          ap (λ (rows : List Row). projected query.items (own ++ other) ∷ rows) more
          ∙ ap (λ x. map (projected query.items) (cond x ((own ++ other) ∷ filter (keeps query.cond) rest) (filter (keeps query.cond) rest))) (sym keep)
      by true false keep more = more ∙ ap (λ x. map (projected query.items) (cond x ((own ++ other) ∷ filter (keeps query.cond) rest) (filter (keeps query.cond) rest))) (sym keep)
      by false c keep more = more

  rows_are : (rights lefts : List Row) → map (λ entry. entry.1) (join_entries rights lefts) ≡ map (projected query.items) (filter (keeps query.cond) (joined left_column.0 right_column.0 lefts rights))
  rows_are rights [] = refl
  rows_are rights (own ∷ lefts) =
      map-append (λ (entry : Place × Row). entry.1) (part rights own) (join_entries rights lefts)
      ∙ (ap (λ (rows : List Row). rows ++ map (λ (entry : Place × Row). entry.1) (join_entries rights lefts)) (part_rows own rights)
      ∙ (ap (λ (rows : List Row). map (projected query.items) (filter (keeps query.cond) (pairs_of left_column.0 right_column.0 rights own)) ++ rows) (rows_are rights lefts)
      ∙ sym (ap (map (projected query.items)) (filter-append (keeps query.cond) (pairs_of left_column.0 right_column.0 rights own) (joined left_column.0 right_column.0 lefts rights))
      ∙ map-append (projected query.items) (filter (keeps query.cond) (pairs_of left_column.0 right_column.0 rights own)) (filter (keeps query.cond) (joined left_column.0 right_column.0 lefts rights)))))

  pub join_rows : (rights lefts : List Row) (entries : List (Place × Row)) → IsRising (key_of two) key_cmp rights → IsRising (key_of one) key_cmp lefts → IsRising place_of place_cmp entries
      → KeepsPairs one two query on rights lefts entries → map (λ entry. entry.1) entries ≡ map (projected query.items) (filter (keeps query.cond) (joined left_column.0 right_column.0 lefts rights))
  join_rows rights lefts entries rises rising up kept =
      ap (map (λ (entry : Place × Row). entry.1)) (same_kept entries (join_entries rights lefts) up (entries_rise rights lefts rises rising) same) ∙ rows_are rights lefts
    where
      same : (place : Place) → kept_at entries place ≡ kept_at (join_entries rights lefts) place
      same (Some a, Some b) = kept.pairs a b ∙ sym (pairs_at a b rights lefts rises rising)
      same (None, place) = kept.first place ∙ sym (nowhere (None, place) (λ a b. refl) rights lefts)
      same (Some a, None) = kept.second (Some a) ∙ sym (nowhere (Some a, None) (λ own b. then_greater (key_cmp own a)) rights lefts)
