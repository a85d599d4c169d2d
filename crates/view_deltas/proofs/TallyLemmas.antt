-- What is counted for a group with a row more or less.
use Rattle.std.proofs.Common.{◌≡◌, ℕ, ℤ, suc, ◌+◌, ◌-◌, ◌+ℤ◌, ◌-ℤ◌, refl, ◌∙◌, ap, List, [], ◌∷◌, ◌++◌, length, map, Option, Some, None, arith}
use Rattle.std.proofs.lemmas.Int.{ints}
use Rattle.own_model.specs.declared.bound.BoundItem.{BoundItem}
use Rattle.own_model.specs.declared.bound.BoundItem.TheVariants as item
use Rattle.own_model.specs.Db.{Row}
use Rattle.query_model.specs.Query.{number_in}
use Rattle.view_deltas.specs.Counted.{Counted}
use Rattle.view_deltas.specs.Numbers.{numbers_in, with_number_of}
use Rattle.view_deltas.specs.Tally.{item_tally, item_with, tally, with_row}
use Rattle.view_deltas.specs.declared.item_tally.ItemTally.{ItemTally}
use Rattle.view_deltas.specs.declared.item_tally.ItemTally.TheVariants.{Group, Count, Sum}
use Rattle.view_deltas.specs.declared.number_tally.NumberTally.{NumberTally}
use Rattle.view_deltas.specs.declared.way.Way.TheVariants.{In, Out}

abbrev made : ℕ → ℤ → NumberTally
made count sum = record { count = count; sum = sum }

-- two numbers come in in any order
commute : (numbers : NumberTally) (one other : Option ℤ) → with_number_of In one (with_number_of In other numbers) ≡ with_number_of In other (with_number_of In one numbers)
commute numbers None other = refl
commute numbers (Some one) None = refl
commute numbers (Some one) (Some other) =
    let same : (numbers.sum +ℤ other) +ℤ one ≡ (numbers.sum +ℤ one) +ℤ other = omega (arith, ints) in
    ap (made (numbers.count + 1 + 1)) same

-- and one that came in goes out again
undo : (numbers : NumberTally) (number : Option ℤ) → with_number_of Out number (with_number_of In number numbers) ≡ numbers
undo numbers None = refl
undo numbers (Some number) =
    let count : numbers.count + 1 - 1 ≡ numbers.count = omega arith in
    let sum : (numbers.sum +ℤ number) -ℤ number ≡ numbers.sum = omega (arith, ints) in
    ap (λ n. made n ((numbers.sum +ℤ number) -ℤ number)) count ∙ ap (made numbers.count) sum

numbers_among : (column : ℕ) (front : List Row) (row : Row) (behind : List Row) → numbers_in column (front ++ row ∷ behind) ≡ with_number_of In (number_in column row) (numbers_in column (front ++ behind))
unfolding numbers_in
numbers_among column [] row behind = refl
numbers_among column (first ∷ front) row behind =
    ap (with_number_of In (number_in column first)) (numbers_among column front row behind)
    ∙ commute (numbers_in column (front ++ behind)) (number_in column first) (number_in column row)

length_among : (front : List Row) (row : Row) (behind : List Row) → length (front ++ row ∷ behind) ≡ length (front ++ behind) + 1
length_among [] row behind = let same : suc (length behind) ≡ length behind + 1 = omega arith in same
length_among (first ∷ front) row behind = omega (arith, length_among front row behind)

item_among : (front : List Row) (row : Row) (behind : List Row) (one : BoundItem) → item_tally (front ++ row ∷ behind) one ≡ item_with In row (item_tally (front ++ behind) one)
item_among front row behind (item.Column column) = refl
item_among front row behind item.Count = refl
item_among front row behind (item.SumOf column) = ap (Sum column) (numbers_among column.0 front row behind)

items_among : (front : List Row) (row : Row) (behind : List Row) (items : List BoundItem) → map (item_tally (front ++ row ∷ behind)) items ≡ map (item_with In row) (map (item_tally (front ++ behind)) items)
items_among front row behind [] = refl
items_among front row behind (one ∷ items) =
    ap (λ first. first ∷ map (item_tally (front ++ row ∷ behind)) items) (item_among front row behind one)
    ∙ ap (λ rest. item_with In row (item_tally (front ++ behind) one) ∷ rest) (items_among front row behind items)

abbrev counted_as : ℕ → List ItemTally → Counted
counted_as rows items = record { rows = rows; items = items }

-- the tally with a row among the others is that of the others with the row
pub tally_among : (items : List BoundItem) (front : List Row) (row : Row) (behind : List Row) → tally items (front ++ row ∷ behind) ≡ with_row In row (tally items (front ++ behind))
unfolding tally
tally_among items front row behind =
    ap (λ n. counted_as n (map (item_tally (front ++ row ∷ behind)) items)) (length_among front row behind)
    ∙ ap (counted_as (length (front ++ behind) + 1)) (items_among front row behind items)

item_undo : (row : Row) (one : ItemTally) → item_with Out row (item_with In row one) ≡ one
item_undo row Group = refl
item_undo row Count = refl
item_undo row (Sum column numbers) = ap (Sum column) (undo numbers (number_in column.0 row))

items_undo : (row : Row) (items : List ItemTally) → map (item_with Out row) (map (item_with In row) items) ≡ items
items_undo row [] = refl
items_undo row (one ∷ items) = ap (λ first. first ∷ map (item_with Out row) (map (item_with In row) items)) (item_undo row one) ∙ ap (λ rest. one ∷ rest) (items_undo row items)

-- and the tally of the others is that with the row without it
pub tally_without : (items : List BoundItem) (front : List Row) (row : Row) (behind : List Row) → with_row Out row (tally items (front ++ row ∷ behind)) ≡ tally items (front ++ behind)
tally_without items front row behind =
    ap (with_row Out row) (tally_among items front row behind)
    ∙ (ap (λ n. counted_as n (map (item_with Out row) (map (item_with In row) (tally items (front ++ behind)).items))) (let same : (tally items (front ++ behind)).rows + 1 - 1 ≡ (tally items (front ++ behind)).rows = omega arith in same)
    ∙ ap (counted_as (tally items (front ++ behind)).rows) (items_undo row (tally items (front ++ behind)).items))
