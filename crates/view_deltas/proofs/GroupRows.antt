-- What is kept for a grouped view are the rows of its query.
use Rattle.std.proofs.Common.{◌≡◌, ℕ, zero, suc, ◌+◌, ℤ, pos, ◌+ℤ◌, eqb, refl, sym, ◌∙◌, ap, subst, List, [], ◌∷◌, map, length, Option, Some, None, arith}
use Rattle.std.specs.Prelude.{Bool, true, false, cond, find, not, ◌&&◌, ◌==◌, filter, filter_map, fold, Contains}
use Rattle.std.specs.List.{AllByRecursion as Each, cons_option}
use Rattle.std.specs.List.Sorted.{IsStrictlySortedBy}
use Rattle.std.specs.Ordering.{is_eq, ordering_then}
use Rattle.std.specs.declared.cmp.Ordering.{Ordering}
use Rattle.std.specs.declared.cmp.Ordering.TheVariants.{Less, Equal, Greater}
use Rattle.std.proofs.lemmas.Bool.{eqb-true}
use Rattle.std.proofs.lemmas.Bool.Decides.{nat_tests}
use Rattle.std.proofs.lemmas.Cmp.{tied_itself}
use Rattle.std.proofs.lemmas.Int.{ints}
use Rattle.std.proofs.lemmas.List.Elements.{recursion_from_All}
use Rattle.own_base.specs.declared.number.ColNo.{ColNo}
use Rattle.own_base.specs.declared.value.Key.{Key}
use Rattle.own_base.specs.declared.value.Value.{Value}
use Rattle.own_base.specs.declared.value.Value.TheVariants.{Null, Int, Text, Sum}
use Rattle.own_model.specs.declared.bound.BoundItem.{BoundItem}
use Rattle.own_model.specs.declared.bound.BoundItem.TheVariants as item
use Rattle.own_model.specs.declared.bound.BoundSelect.{BoundSelect}
use Rattle.own_model.specs.Db.{Row}
use Rattle.own_model.specs.Stored.{is_equal}
use Rattle.page_model.specs.Found.{found}
use Rattle.page_model.specs.Rising.{IsRising}
use Rattle.page_model.proofs.Ordered.{equal_from}
use Rattle.page_model.proofs.RisingLemmas.{each_weaker}
use Rattle.query_model.specs.Footprints.{literal_key}
use Rattle.query_model.specs.GroupRows.{AreGroupRows, IsOneOf, StandsIn}
use Rattle.query_model.specs.Order.{value_cmp}
use Rattle.query_model.specs.Query.{group_of, grouped, number_in, sum_of, summary, summed_item}
use Rattle.query_model.specs.Stored.{IsStored, IsStoredRow}
use Rattle.query_model.specs.Truth.{cell, keeps}
use Rattle.query_model.proofs.GroupValues.{grouped_rows}
use Rattle.view_deltas.specs.Counted.{Counted}
use Rattle.view_deltas.specs.Entries.{item_of, kept_at}
use Rattle.view_deltas.specs.Groups.{group_at, group_rows, in_group, KeepsGroups, row_in, side_of, where_shown}
use Rattle.view_deltas.specs.Numbers.{numbers_in, shown_sum, with_number_of}
use Rattle.view_deltas.specs.Place.{Place, place_cmp, side_cmp}
use Rattle.view_deltas.specs.PlaceOrder.{side_exact, side_total}
use Rattle.view_deltas.specs.Tally.{item_tally, shown_item, shown_tally, side_value, tally}
use Rattle.view_deltas.specs.declared.grouped.GroupedView.{GroupedView}
use Rattle.view_deltas.specs.declared.number_tally.NumberTally.{NumberTally}
use Rattle.view_deltas.specs.declared.way.Way.TheVariants.{In}
use Rattle.view_deltas.proofs.EntryLemmas.{place_of}
use Rattle.view_deltas.proofs.KeptLemmas.{kept_first, same_kept}
use Rattle.view_deltas.proofs.PlainLemmas.{then_equal, then_less}

-- The numbers of a column, as the sum of a query has them.

abbrev all_of : List ℤ → NumberTally
all_of numbers = record { count = length numbers; sum = fold (λ sum number. sum +ℤ number) (pos 0) numbers }

-- a sum from another beginning on
fold_from : (start : ℤ) (numbers : List ℤ) → fold (λ sum number. sum +ℤ number) start numbers ≡ fold (λ sum number. sum +ℤ number) (pos 0) numbers +ℤ start
fold_from start [] = let same : start ≡ pos 0 +ℤ start = omega (arith, ints) in same
fold_from start (number ∷ numbers) =
    let first = fold_from (start +ℤ number) numbers in
    let second = fold_from (pos 0 +ℤ number) numbers in
    let rest = fold (λ (sum : ℤ) (number : ℤ). sum +ℤ number) (pos 0) numbers in
    let same : rest +ℤ (start +ℤ number) ≡ (rest +ℤ (pos 0 +ℤ number)) +ℤ start = omega (arith, ints) in
    first ∙ (same ∙ ap (λ sum. sum +ℤ start) (sym second))

numbers_are : (column : ℕ) (rows : List Row) → numbers_in column rows ≡ all_of (filter_map (number_in column) rows)
unfolding numbers_in
numbers_are column [] = refl
numbers_are column (row ∷ rows) = by (number_in column row) (numbers_are column rows)
  where
    by : (next : Option ℤ) → numbers_in column rows ≡ all_of (filter_map (number_in column) rows) → with_number_of In next (numbers_in column rows) ≡ all_of (cons_option next (filter_map (number_in column) rows))
    by None is = is
    by (Some number) is =
        let numbers = filter_map (number_in column) rows in
        let made : ℕ → ℤ → NumberTally = λ count sum. record { count = count; sum = sum } in
        let count : length numbers + 1 ≡ length (number ∷ numbers) = omega arith in
        let start : pos 0 +ℤ number ≡ number = omega (arith, ints) in
        let sum : fold (λ sum number. sum +ℤ number) (pos 0) numbers +ℤ number ≡ fold (λ sum number. sum +ℤ number) (pos 0) (number ∷ numbers) =
        sym (fold_from number numbers) ∙ ap (λ from. fold (λ sum number. sum +ℤ number) from numbers) (sym start) in
        ap (with_number_of In (Some number)) is ∙ (ap (λ n. made n (fold (λ sum number. sum +ℤ number) (pos 0) numbers +ℤ number)) count ∙ ap (made (length (number ∷ numbers))) sum)

sum_shown : (numbers : List ℤ) → shown_sum (all_of numbers) ≡ sum_of numbers
sum_shown [] = refl
sum_shown (first ∷ rest) =
    let start : pos 0 +ℤ first ≡ first = omega (arith, ints) in
    let some : eqb (length (first ∷ rest)) 0 ≡ false = grind (arith, nat_tests) in
    rw some (ap (λ start. Sum (fold (λ sum number. sum +ℤ number) start rest)) start)

-- what is counted shows the summary of the group
summed : (side : Option Key) (rows : List Row) (items : List BoundItem) → map (shown_item (side_value side) (length rows)) (map (item_tally rows) items) ≡ summary items (side_value side) rows
summed side rows [] = refl
summed side rows (one ∷ items) = ap (λ first. first ∷ map (shown_item (side_value side) (length rows)) (map (item_tally rows) items)) (by one) ∙ ap (λ rest. summed_item (side_value side) rows one ∷ rest) (summed side rows items)
  where
    by : (one : BoundItem) → shown_item (side_value side) (length rows) (item_tally rows one) ≡ summed_item (side_value side) rows one
    by (item.Column column) = refl
    by item.Count = refl
    by (item.SumOf column) = ap shown_sum (numbers_are column.0 rows) ∙ sum_shown (filter_map (number_in column.0) rows)

tally_shown : (side : Option Key) (rows : List Row) (items : List BoundItem) → shown_tally side (tally items rows) ≡ summary items (side_value side) rows
unfolding tally
tally_shown side rows items = summed side rows items

-- Stored values, and the places of their groups.

value_back : (value : Value) → IsStored value → side_value (literal_key value) ≡ value
value_back Null stored = refl
value_back (Int number) stored = refl
value_back (Text bytes) stored = refl
value_back (Sum number) stored = absurd stored

same_order : (one other : Value) → IsStored one → IsStored other → side_cmp (literal_key one) (literal_key other) ≡ value_cmp one other
unfolding value_cmp
same_order Null Null here there = refl
same_order Null (Int other) here there = refl
same_order Null (Text other) here there = refl
same_order Null (Sum other) here there = absurd there
same_order (Int one) Null here there = refl
same_order (Int one) (Int other) here there = refl
same_order (Int one) (Text other) here there = refl
same_order (Int one) (Sum other) here there = absurd there
same_order (Text one) Null here there = refl
same_order (Text one) (Int other) here there = refl
same_order (Text one) (Text other) here there = refl
same_order (Text one) (Sum other) here there = absurd there
same_order (Sum one) other here there = absurd here

eq_equal : (o : Ordering) → is_eq o ≡ is_equal o
eq_equal Less = refl
eq_equal Equal = refl
eq_equal Greater = refl

-- what is in a list
each_in : {X : Type 0} (P : X → Type 0) (xs : List X) (x : X) → Each P xs → Contains xs x → P x
each_in P [] x all (place, within, is) = absurd (omega arith)
each_in P (first ∷ xs) x all (zero, within, is) = subst P is all.0
each_in P (first ∷ xs) x all (suc place, within, is) = each_in P xs x all.1 (place, omega arith, is)

in_filter : {X : Type 0} (P : X → Type 0) (p : X → Bool) (xs : List X) → Each P xs → Each P (filter p xs)
in_filter P p [] all = tt
in_filter P p (x ∷ xs) all = by (p x) (in_filter P p xs all.1)
  where
    by : (b : Bool) → Each P (filter p xs) → Each P (cond b (x ∷ filter p xs) (filter p xs))
    by true more = (all.0, more)
    by false more = more

each_passes : {X : Type 0} (p : X → Bool) (xs : List X) → Each (λ x. p x ≡ true) (filter p xs)
each_passes p [] = tt
each_passes p (x ∷ xs) = by (p x) refl (each_passes p xs)
  where
    by : (b : Bool) → p x ≡ b → Each (λ x. p x ≡ true) (filter p xs) → Each (λ x. p x ≡ true) (cond b (x ∷ filter p xs) (filter p xs))
    by true is more = (is, more)
    by false is more = more

each_both : {X : Type 0} (P Q R : X → Type 0) → ((x : X) → P x → Q x → R x) → (xs : List X) → Each P xs → Each Q xs → Each R xs
each_both P Q R f [] all also = tt
each_both P Q R f (x ∷ xs) all also = (f x all.0 also.0, each_both P Q R f xs all.1 also.1)

-- a cell of a stored row is stored
cell_stored : (row : Row) (column : ℕ) → Each IsStored row → IsStored (cell row column)
cell_stored [] column stored = tt
cell_stored (value ∷ row) zero stored = stored.0
cell_stored (value ∷ row) (suc column) stored = cell_stored row column stored.1

pub row_stored : (row : Row) → IsStoredRow row → (column : ℕ) → IsStored (cell row column)
row_stored row stored column = cell_stored row column (recursion_from_All IsStored row stored)

-- where a filter leaves nothing all fail, and else one passes
all_fail : {X : Type 0} (p : X → Bool) (xs : List X) → (length (filter p xs) == 0) ≡ true → Each (λ x. p x ≡ false) xs
all_fail p [] none = tt
all_fail p (x ∷ xs) none = by (p x) refl (all_fail p xs) none
  where
    by : (b : Bool) → p x ≡ b → ((length (filter p xs) == 0) ≡ true → Each (λ x. p x ≡ false) xs) → (length (cond b (x ∷ filter p xs) (filter p xs)) == 0) ≡ true → Each (λ x. p x ≡ false) (x ∷ xs)
    by true passes more none = absurd (let never : length (x ∷ filter p xs) ≡ 0 = eqb-true _ _ none in omega arith)
    by false fails more none = (fails, more none)

one_passes : {X : Type 0} (P : X → Type 0) (p : X → Bool) (xs : List X) → Each P xs → (length (filter p xs) == 0) ≡ false → (x : X) × P x × (p x ≡ true)
one_passes P p [] all some = let never : true ≡ false = some in absurd (cc)
one_passes {X} P p (x ∷ xs) all some = by (p x) refl (one_passes P p xs all.1) some
  where
    by : (b : Bool) → p x ≡ b → ((length (filter p xs) == 0) ≡ false → (x : X) × P x × (p x ≡ true)) → (length (cond b (x ∷ filter p xs) (filter p xs)) == 0) ≡ false → (x : X) × P x × (p x ≡ true)
    by true passes more some = (x, all.0, passes)
    by false fails more some = more some

-- what holds of those that pass holds of each that does
each_passing : {X : Type 0} (P : X → Type 0) (p : X → Bool) (xs : List X) → Each P (filter p xs) → Each (λ x. p x ≡ true → P x) xs
each_passing P p [] all = tt
each_passing P p (x ∷ xs) all = by (p x) refl (each_passing P p xs) all
  where
    by : (b : Bool) → p x ≡ b → (Each P (filter p xs) → Each (λ x. p x ≡ true → P x) xs) → Each P (cond b (x ∷ filter p xs) (filter p xs)) → (p x ≡ true → P x) × Each (λ x. p x ≡ true → P x) xs
    by true is more all = ((λ passes. all.0), more all.1)
    by false is more all = ((λ passes. absurd (let never : true ≡ false = sym passes ∙ is in cc)), more all)

-- two tests at once
both_true : (b c : Bool) → (b && c) ≡ true → (b ≡ true) × (c ≡ true)
both_true true c is = (refl, is)
both_true false c is = let never : false ≡ true = is in absurd (cc)

-- the rows that groups show, each at its place
abbrev shown_of : Place × (Counted × Row) → Place × Row
shown_of group = (group.0, group.1.1)

abbrev shown_in : List (Place × (Counted × Row)) → List (Place × Row)
shown_in groups = map shown_of groups

shown_kept : (groups : List (Place × (Counted × Row))) (place : Place) → kept_at (shown_in groups) place ≡ row_in (kept_at groups place)
unfolding kept_at found
shown_kept [] place = refl
shown_kept (group ∷ groups) place = by (is_eq (place_cmp group.0 place)) (shown_kept groups place)
  where
    by : (b : Bool) → item_of (find (λ one. is_eq (place_cmp one.0 place)) (shown_in groups)) ≡ row_in (item_of (find (λ one. is_eq (place_cmp one.0 place)) groups))
        → item_of (cond b (Some (shown_of group)) (find (λ one. is_eq (place_cmp one.0 place)) (shown_in groups))) ≡ row_in (item_of (cond b (Some group) (find (λ one. is_eq (place_cmp one.0 place)) groups)))
    by true more = refl
    by false more = more

module _ (query : BoundSelect) where
  abbrev kept : List Row → List Row
  kept rows = filter (keeps query.cond) rows

  -- what is shown of a group
  abbrev group_entry : List Row → Option Key → Place × Row
  group_entry rows side = ((side, None), shown_tally side (tally query.items (group_rows query side rows)))

  -- what stands at a place
  abbrev stands_at : List Row → Place → Option Row
  stands_at rows place = row_in (group_at query rows place)

  module _ (rows : List Row) (groups : GroupedView) (rises : IsRising place_of place_cmp (shown_in groups.groups)) (keep : KeepsGroups query rows groups) where
    entries_at : (place : Place) → kept_at (shown_in groups.groups) place ≡ stands_at rows place
    entries_at place = shown_kept groups.groups place ∙ ap row_in (keep.each place)

    -- Without GROUP BY there is one row.
    all_kept : (rows : List Row) → query.group ≡ None → group_rows query None rows ≡ kept rows
    all_kept [] none = refl
    all_kept (row ∷ rows) none = by (keeps query.cond row) (all_kept rows none)
      where
        own : is_eq (side_cmp (side_of query.group row) None) ≡ true
        own = ap (λ (group : Option ColNo). is_eq (side_cmp (side_of group row) None)) none

        by : (b : Bool) → group_rows query None rows ≡ kept rows
            → cond (b && is_eq (side_cmp (side_of query.group row) None)) (row ∷ group_rows query None rows) (group_rows query None rows) ≡ cond b (row ∷ kept rows) (kept rows)
        by true more = ap (λ b. cond b (row ∷ group_rows query None rows) (group_rows query None rows)) own ∙ ap (λ rest. row ∷ rest) more
        by false more = more

    one_row : query.group ≡ None → map (λ entry. entry.1) (shown_in groups.groups) ≡ grouped query.items None (kept rows)
    unfolding grouped group_at kept_at found IsStrictlySortedBy
    one_row none =
        ap (map (λ (entry : Place × Row). entry.1)) (same_kept (shown_in groups.groups) (group_entry rows None ∷ []) rises (tt, tt) (λ place. entries_at place ∙ at place))
        ∙ ap (λ row. row ∷ []) (tally_shown None (group_rows query None rows) query.items ∙ ap (summary query.items Null) (all_kept rows none))
      where
        shown_where : (side : Option Key) → where_shown query.group side (tally query.items (group_rows query side rows)) ≡ where_shown None side (tally query.items (group_rows query side rows))
        shown_where side = ap (λ (group : Option ColNo). where_shown group side (tally query.items (group_rows query side rows))) none

        at : (place : Place) → stands_at rows place ≡ kept_at (group_entry rows None ∷ []) place
        at (None, None) = ap row_in (shown_where None)
        at (Some key, None) = ap row_in (shown_where (Some key))
        at (None, Some key) = refl
        at (Some one, Some key) = refl

  module _ (column : ColNo) (group : query.group ≡ Some column) where
    abbrev of_cell : Row → Option Key
    of_cell row = literal_key (cell row column.0)

    own_side : (row : Row) → side_of query.group row ≡ of_cell row
    own_side row = ap (λ (group : Option ColNo). side_of group row) group

    -- the group of a value
    same_group : (value : Value) → IsStored value → (rows : List Row) → Each IsStoredRow rows → group_rows query (literal_key value) rows ≡ group_of column.0 (kept rows) value
    same_group value here [] stored = refl
    same_group value here (row ∷ rows) stored = by (keeps query.cond row) (same_group value here rows stored.1)
      where
        tests : is_eq (side_cmp (side_of query.group row) (literal_key value)) ≡ is_equal (value_cmp (cell row column.0) value)
        tests =
            ap (λ side. is_eq (side_cmp side (literal_key value))) (own_side row)
            ∙ (ap is_eq (same_order (cell row column.0) value (row_stored row stored.0 column.0) here) ∙ eq_equal (value_cmp (cell row column.0) value))

        by : (b : Bool) → group_rows query (literal_key value) rows ≡ group_of column.0 (kept rows) value
            → cond (b && is_eq (side_cmp (side_of query.group row) (literal_key value))) (row ∷ group_rows query (literal_key value) rows) (group_rows query (literal_key value) rows)
            ≡ group_of column.0 (cond b (row ∷ kept rows) (kept rows)) value
        by true more =
            ap (λ c. cond c (row ∷ group_rows query (literal_key value) rows) (group_rows query (literal_key value) rows)) tests
            ∙ ap (λ (rest : List Row). cond (is_equal (value_cmp (cell row column.0) value)) (row ∷ rest) rest) more
        by false more = more

    module _ (rows : List Row) (stored : Each IsStoredRow rows) where
      facts : AreGroupRows query.items column.0 (kept rows) (grouped query.items (Some column) (kept rows))
      facts = grouped_rows query.items column (kept rows)

      abbrev group_values : List Value
      group_values = facts.values

      kept_stored : Each IsStoredRow (kept rows)
      kept_stored = in_filter IsStoredRow (keeps query.cond) rows stored

      value_stored : (value : Value) → StandsIn column.0 (kept rows) value → IsStored value
      value_stored value stands = subst IsStored stands.is (row_stored stands.row (each_in IsStoredRow (kept rows) stands.row kept_stored stands.among) column.0)

      values_stored : Each IsStored group_values
      values_stored = each_weaker _ _ value_stored group_values facts.stand

      abbrev entry_of : Value → Place × Row
      entry_of value = group_entry rows (literal_key value)

      rise : (values : List Value) → IsStrictlySortedBy value_cmp values → Each IsStored values → IsRising place_of place_cmp (map entry_of values)
      unfolding IsStrictlySortedBy
      rise [] rising all = tt
      rise (value ∷ values) rising all = (above values rising.0 all.1, rise values rising.1 all.1)
        where
          above : (others : List Value) → Each (λ other. value_cmp value other ≡ Less) others → Each IsStored others → Each (λ place. place_cmp (literal_key value, None) place ≡ Less) (map (λ (entry : Place × Row). entry.0) (map entry_of others))
          above [] less there = tt
          above (other ∷ others) less there = (ap (λ o. ordering_then o Equal) (same_order value other all.0 there.0 ∙ less.0), above others less.1 there.1)

      -- at a side that is that of a value
      at_value : (side : Option Key) (other : Value) (values : List Value) → literal_key other ≡ side → Contains values other
          → kept_at (map entry_of values) (side, None) ≡ Some (shown_tally side (tally query.items (group_rows query side rows)))
      at_value side other [] is (place, within, at) = absurd (omega arith)
      at_value side other (value ∷ values) is among = by (at_value side other values is) (is_eq (side_cmp (literal_key value) side)) refl among
        where
          by : (Contains values other → kept_at (map entry_of values) (side, None) ≡ Some (shown_tally side (tally query.items (group_rows query side rows))))
              → (b : Bool) → is_eq (side_cmp (literal_key value) side) ≡ b → Contains (value ∷ values) other
              → kept_at (map entry_of (value ∷ values)) (side, None) ≡ Some (shown_tally side (tally query.items (group_rows query side rows)))
          by more true tied among =
              kept_first (side, None) (entry_of value) (map entry_of values) true (then_equal (side_cmp (literal_key value) side) ∙ tied)
              ∙ ap (λ (own : Option Key). Some (shown_tally own (tally query.items (group_rows query own rows)))) (side_exact (literal_key value) side (equal_from _ tied))
          by more false apart (zero, within, at) =
              let tie : is_eq (side_cmp (literal_key value) side) ≡ true =
              ap (λ (own : Option Key). is_eq (side_cmp own side)) (ap literal_key at ∙ is) ∙ ap is_eq (tied_itself side_total side) in
              absurd (let never : true ≡ false = sym tie ∙ apart in cc)
          by more false apart (suc place, within, at) =
              kept_first (side, None) (entry_of value) (map entry_of values) false (then_equal (side_cmp (literal_key value) side) ∙ apart)
              ∙ more (place, omega arith, at)

      -- at a place that is that of no value
      nowhere : (place : Place) (values : List Value) → Each (λ value. is_eq (place_cmp (literal_key value, None) place) ≡ false) values → kept_at (map entry_of values) place ≡ None
      unfolding kept_at found
      nowhere place [] apart = refl
      nowhere place (value ∷ values) apart = kept_first place (entry_of value) (map entry_of values) false apart.0 ∙ nowhere place values apart.1

      -- a value of whose group there is no row stands in none
      stands_not : (side : Option Key) → Each (λ row. in_group query side row ≡ false) rows → (value : Value) → StandsIn column.0 (kept rows) value → is_eq (place_cmp (literal_key value, None) (side, None)) ≡ false
      stands_not side none value stands = then_equal (side_cmp (literal_key value) side) ∙ by (is_eq (side_cmp (literal_key value) side)) refl
        where
          passes : keeps query.cond stands.row ≡ true
          passes = each_in (λ row. keeps query.cond row ≡ true) (kept rows) stands.row (each_passes (keeps query.cond) rows) stands.among

          fails : in_group query side stands.row ≡ false
          fails = each_in (λ row. in_group query side row ≡ false) (kept rows) stands.row (in_filter (λ row. in_group query side row ≡ false) (keeps query.cond) rows none) stands.among

          by : (b : Bool) → is_eq (side_cmp (literal_key value) side) ≡ b → is_eq (side_cmp (literal_key value) side) ≡ false
          by true tied =
              let own : side_of query.group stands.row ≡ literal_key value = own_side stands.row ∙ ap literal_key stands.is in
              let in_it : in_group query side stands.row ≡ true =
              ap (λ b. b && is_eq (side_cmp (side_of query.group stands.row) side)) passes ∙ (ap (λ (own : Option Key). is_eq (side_cmp own side)) own ∙ tied) in
              absurd (let never : true ≡ false = sym in_it ∙ fails in cc)
          by false apart = apart

      at_side : (side : Option Key) → stands_at rows (side, None) ≡ kept_at (map entry_of group_values) (side, None)
      unfolding group_at tally
      at_side side = ap (λ (group : Option ColNo). row_in (where_shown group side (tally query.items (group_rows query side rows)))) group ∙ by (length (group_rows query side rows) == 0) refl
        where
          by : (b : Bool) → (length (group_rows query side rows) == 0) ≡ b
              → row_in (cond (not b) (Some (tally query.items (group_rows query side rows), shown_tally side (tally query.items (group_rows query side rows)))) None) ≡ kept_at (map entry_of group_values) (side, None)
          by true none = sym (nowhere (side, None) group_values (each_weaker _ _ (stands_not side (all_fail (in_group query side) rows none)) group_values facts.stand))
          by false some =
              let each = each_both _ _ (λ row. (keeps query.cond row ≡ true → IsOneOf group_values (cell row column.0)) × IsStoredRow row) (λ row one own. (one, own)) rows
              (each_passing (λ row. IsOneOf group_values (cell row column.0)) (keeps query.cond) rows facts.each) stored in
              let found = one_passes (λ row. (keeps query.cond row ≡ true → IsOneOf group_values (cell row column.0)) × IsStoredRow row) (in_group query side) rows each some in
              let both = both_true (keeps query.cond found.0) (is_eq (side_cmp (side_of query.group found.0) side)) found.2 in
              let one = found.1.0 both.0 in
              let other_stored = each_in IsStored group_values one.other values_stored one.among in
              let tied : side_cmp (of_cell found.0) (literal_key one.other) ≡ Equal = same_order (cell found.0 column.0) one.other (row_stored found.0 found.1.1 column.0) other_stored ∙ one.equal in
              let is : literal_key one.other ≡ side = sym (side_exact (of_cell found.0) (literal_key one.other) tied) ∙ (sym (own_side found.0) ∙ side_exact (side_of query.group found.0) side (equal_from _ both.1)) in
              sym (at_value side one.other group_values is one.among)

      at_each : (place : Place) → stands_at rows place ≡ kept_at (map entry_of group_values) place
      unfolding group_at
      at_each (side, None) = at_side side
      at_each (side, Some key) = sym (nowhere (side, Some key) group_values (each_weaker _ _ (λ value own. then_less (side_cmp (literal_key value) side)) group_values values_stored))

      rows_are : (values : List Value) → Each IsStored values → map (λ entry. entry.1) (map entry_of values) ≡ map (λ value. summary query.items value (group_of column.0 (kept rows) value)) values
      rows_are [] all = refl
      rows_are (value ∷ values) all =
          ap (λ first. first ∷ map (λ (entry : Place × Row). entry.1) (map entry_of values))
          (tally_shown (literal_key value) (group_rows query (literal_key value) rows) query.items
          ∙ (ap (λ own. summary query.items own (group_rows query (literal_key value) rows)) (value_back value all.0) ∙ ap (summary query.items value) (same_group value all.0 rows stored)))
          ∙ ap (λ rest. summary query.items value (group_of column.0 (kept rows) value) ∷ rest) (rows_are values all.1)

      by_column : (groups : GroupedView) → IsRising place_of place_cmp (shown_in groups.groups) → KeepsGroups query rows groups → map (λ entry. entry.1) (shown_in groups.groups) ≡ grouped query.items (Some column) (kept rows)
      by_column groups rises keep =
          ap (map (λ (entry : Place × Row). entry.1)) (same_kept (shown_in groups.groups) (map entry_of group_values) rises (rise group_values facts.rise values_stored) (λ place. entries_at rows groups rises keep place ∙ at_each place))
          ∙ (rows_are group_values values_stored ∙ sym facts.one_each)

  -- so they are the rows of the query, in its order
  pub group_rows_are : (rows : List Row) (groups : GroupedView) → Each IsStoredRow rows → IsRising place_of place_cmp (shown_in groups.groups) → KeepsGroups query rows groups
      → map (λ entry. entry.1) (shown_in groups.groups) ≡ grouped query.items query.group (kept rows)
  group_rows_are rows groups stored rises keep = by query.group refl
    where
      by : (group : Option ColNo) → query.group ≡ group → map (λ entry. entry.1) (shown_in groups.groups) ≡ grouped query.items group (kept rows)
      by None none = one_row rows groups rises keep none
      by (Some column) is = by_column column is rows stored groups rises keep
