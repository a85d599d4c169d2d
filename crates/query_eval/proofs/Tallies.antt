-- What is counted in some rows, and in one row more.
use Rattle.std.proofs.Common.{◌≡◌, ℕ, ◌+◌, ◌<◌, ◌≤◌, ◌^◌, ℤ, ◌+ℤ◌, pos, false, not, eqb, List, [], ◌∷◌, ◌++◌, map, Option, None, Some, length, refl, sym, ap, ◌∙◌, arith, append-nil}
use Rattle.std.specs.List.{All, cons_option, filter_map, fold}
use Rattle.std.proofs.lemmas.Bool.Decides.{nat_tests}
use Rattle.std.proofs.lemmas.Int.{ints}
use Rattle.std.proofs.lemmas.List.{length_push}
use Rattle.std.proofs.lemmas.List.Elements.{All-cons, All-nil, filter_map-append}
use Rattle.std.proofs.lemmas.List.Sums.{fold-append}
use Rattle.std.proofs.lemmas.List.Filters.{length-filter_both}
use Rattle.std.specs.BTreeMap.{is_at}
use Rattle.std.specs.Map.{lookup}
use Rattle.own_base.specs.declared.value.Value.{Value}
use Rattle.own_base.specs.declared.value.Value.TheVariants.{Sum}
use Rattle.own_model.specs.declared.bound.BoundItem.{BoundItem}
use Rattle.own_model.specs.declared.bound.BoundItem.TheVariants.{Column, Count, SumOf}
use Rattle.own_model.specs.Db.{Row}
use Rattle.own_model.specs.Stored.{is_equal}
use Rattle.query_model.specs.Order.{value_cmp}
use Rattle.query_model.specs.Query.{group_of, number_in, sum_of, summary, summed_item}
use Rattle.query_model.specs.Truth.{cell}
use Rattle.query_eval.specs.ByValue.{by_value}
use Rattle.query_eval.specs.declared.item_tally.ItemTally.{ItemTally}
use Rattle.query_eval.specs.declared.item_tally.ItemTally.TheVariants as tallied
use Rattle.query_eval.specs.Numbers.{numbers_of, shown_sum, with_number}
use Rattle.query_eval.specs.Tally.{HasRoom, item_tally, shown_tally, tally, with_number_of, with_row}
use Rattle.query_eval.proofs.KeptByValue.{found-kept}

-- one number more
numbers_of-push : (numbers : List ℤ) (number : ℤ) → with_number (numbers_of numbers) number ≡ numbers_of (numbers ++ number ∷ [])
numbers_of-push numbers number = rw (length_push numbers number, fold-append (λ sum number. sum +ℤ number) (pos 0) numbers (number ∷ [])) refl

-- the number of one row more, if it has one
numbers_of-row : (next : Option ℤ) (numbers : List ℤ) → with_number_of (numbers_of numbers) next ≡ numbers_of (numbers ++ filter_map (λ (one : Option ℤ). one) (next ∷ []))
numbers_of-row None numbers = ap numbers_of (sym (append-nil numbers))
numbers_of-row (Some number) numbers = numbers_of-push numbers number

-- what is counted for an item, with one row more
item_tally-push : (rows : List Row) (row : Row) (item : BoundItem) → with_row row (item_tally rows item) ≡ item_tally (rows ++ row ∷ []) item
item_tally-push rows row (Column column) = refl
item_tally-push rows row Count = ap tallied.Count (sym (length_push rows row))
item_tally-push rows row (SumOf column) = ap (tallied.Sum column) (numbers_of-row (number_in column.0 row) (filter_map (number_in column.0) rows) ∙ ap numbers_of (sym (filter_map-append (number_in column.0) rows (row ∷ []))))

-- what is counted, with one row more
pub tally-push : (items : List BoundItem) (rows : List Row) (row : Row) → map (with_row row) (tally items rows) ≡ tally items (rows ++ row ∷ [])
tally-push [] rows row = refl
tally-push (item ∷ items) rows row = rw (item_tally-push rows row item, tally-push items rows row) refl

length-filter_map : {X Y : Type 0} (h : X → Option Y) (items : List X) → length (filter_map h items) ≤ length items
length-filter_map h [] = omega arith
length-filter_map {X = X} {Y = Y} h (first ∷ rest) = longer (h first) (length-filter_map h rest)
  where
    longer : (next : Option Y) → length (filter_map h rest) ≤ length rest → length (cons_option next (filter_map h rest)) ≤ length (first ∷ rest)
    longer None hence = omega arith
    longer (Some number) hence = omega arith

-- few rows are counted in 64 bits
item_tally-room : (more : ℕ) (rows : List Row) (item : BoundItem) → length rows + more < 2 ^ 63 → HasRoom more (item_tally rows item)
item_tally-room more rows (Column column) few = tt
item_tally-room more rows Count few = few
item_tally-room more rows (SumOf column) few = omega (arith, length-filter_map (number_in column.0) rows)

pub tally-room : (more : ℕ) (items : List BoundItem) (rows : List Row) → length rows + more < 2 ^ 63 → All (HasRoom more) (tally items rows)
tally-room more [] rows few = All-nil (HasRoom more)
tally-room more (item ∷ items) rows few = All-cons (HasRoom more) (item_tally rows item) (tally items rows) (item_tally-room more rows item few) (tally-room more items rows few)

-- a sum shows what SUM says
shown_sum-is : (numbers : List ℤ) → shown_sum (numbers_of numbers) ≡ sum_of numbers
shown_sum-is [] = refl
shown_sum-is (first ∷ rest) =
    let start : pos 0 +ℤ first ≡ first = omega (arith, ints) in
    let some : eqb (length (first ∷ rest)) 0 ≡ false = grind (arith, nat_tests) in
    rw some (ap (λ start. Sum (fold (λ sum number. sum +ℤ number) start rest)) start)

-- what is counted shows the group's summary
pub shown-tally : (items : List BoundItem) (value : Value) (rows : List Row) → map (shown_tally value) (tally items rows) ≡ summary items value rows
shown-tally [] value rows = refl
shown-tally (item ∷ items) value rows = rw (shown-tally items value rows) (ap (λ shown. shown ∷ summary items value rows) (shown-item item))
  where
    shown-item : (item : BoundItem) → shown_tally value (item_tally rows item) ≡ summed_item value rows item
    shown-item (Column column) = refl
    shown-item Count = refl
    shown-item (SumOf column) = shown_sum-is (filter_map (number_in column.0) rows)

-- a group has no more rows than there are
pub length-group_of : (column : ℕ) (rows : List Row) (value : Value) → length (group_of column rows value) ≤ length rows
length-group_of column rows value = omega (arith, length-filter_both (λ row. is_equal (value_cmp (cell row column) value)) (λ row. not (is_equal (value_cmp (cell row column) value))) (λ _. refl) rows)

-- what is found for a value of few rows has room for a row more
pub found-room : (items : List BoundItem) (column : ℕ) (rows : List Row) (entries : List (Value × List ItemTally)) (value : Value) (found : List ItemTally)
    → entries ≡ by_value (tally items) column rows → length rows + 1 < 2 ^ 63 → Some found ≡ lookup (is_at (value_cmp value)) entries → All (HasRoom 1) found
found-room items column rows entries value found is few there =
    let room : All (HasRoom 1) (tally items (group_of column rows value)) = tally-room 1 items (group_of column rows value) (omega (arith, length-group_of column rows value)) in
    rw (found-kept (tally items) column rows entries is value found there) room
