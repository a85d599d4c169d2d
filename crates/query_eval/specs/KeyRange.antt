-- The places of a table's rows that bounds on its primary key leave.
use Rattle.std.specs.Prelude.{◌≡◌, ℕ, ◌<◌, ◌≤◌, List, [], Bool, true, false, length, slice_index_or}
use Rattle.std.specs.declared.cmp.Ordering.{Ordering}
use Rattle.std.specs.declared.cmp.Ordering.TheVariants.{Less, Equal, Greater}
use Rattle.own_base.specs.Key.{key_cmp}
use Rattle.own_base.specs.declared.value.Value.{Value}
use Rattle.own_model.specs.declared.bound.BoundOperand.{BoundOperand}
use Rattle.own_model.specs.declared.condition.Cmp.{Cmp}
use Rattle.own_model.specs.declared.schema.TableDef.{TableDef}
use Rattle.own_model.specs.Db.{Row, as_key, key_of}
use Rattle.query_model.specs.Truth.{cell, compared, comparison, is_true, operand}
use Rattle.query_eval.specs.declared.key_range.Span.{Span}

-- whether what stands so to a bound is before it, or with true in its place or before it
abbrev pub is_before_bound : Bool → Ordering → Bool
is_before_bound behind Less = true
is_before_bound behind Equal = behind
is_before_bound behind Greater = false

-- whether a row is before a value as a key, or with true of that key or before it
abbrev pub is_before : TableDef → Value → Bool → Row → Bool
is_before table value behind row = is_before_bound behind (key_cmp (key_of table row) (as_key value))

-- whether what stands in a column is taken by a comparison with a value
abbrev pub is_taken : ℕ → Cmp → Value → Row → Bool
is_taken column sign value row = is_true (comparison sign (compared (cell row column) value))

-- whether a comparison of a column takes a row
abbrev pub is_compared : ℕ → Cmp → BoundOperand → Row → Bool
is_compared column sign right row = is_true (comparison sign (compared (cell row column) (operand row right)))

-- the row at a place
abbrev pub row_in : List Row → ℕ → Row
row_in rows place = slice_index_or rows place []

-- the rows before a place are before a bound, and the others are not
pub record IsPlaceOf (before : Row → Bool) (rows : List Row) (place : ℕ) : Type 0 where
  pub within : place ≤ length rows
  pub front : (k : ℕ) → k < place → before (row_in rows k) ≡ true
  pub back : (k : ℕ) → place ≤ k → k < length rows → before (row_in rows k) ≡ false

-- each row that passes has its place in a span
pub record IsSpanOf (passes : Row → Bool) (rows : List Row) (span : Span) : Type 0 where
  pub begins : span.from ≤ length rows
  pub ends : span.upto ≤ length rows
  pub inside : (k : ℕ) → k < length rows → passes (row_in rows k) ≡ true → (span.from ≤ k) × (k < span.upto)

-- what is left of a span has each row that passed a test and makes a condition True
abbrev pub Narrows : (Row → Bool) → List Row → Span → Span → Type 0
Narrows holds rows span left =
    (passes : Row → Bool) → ((k : ℕ) → k < length rows → passes (row_in rows k) ≡ true → holds (row_in rows k) ≡ true) → IsSpanOf passes rows span → IsSpanOf passes rows left

-- where a row passes, a test holds of some row that has the same in a column
abbrev pub IsSeen : ℕ → (Row → Bool) → List Row → (Row → Bool) → Type 0
IsSeen column holds rows passes =
    (k : ℕ) → k < length rows → passes (row_in rows k) ≡ true → (seen : Row) × (cell seen column ≡ cell (row_in rows k) column) × (holds seen ≡ true)

-- what is left of a span has each row that passed, where each that passes is seen so
abbrev pub NarrowsBy : ℕ → (Row → Bool) → List Row → Span → Span → Type 0
NarrowsBy column holds rows span left = (passes : Row → Bool) → IsSeen column holds rows passes → IsSpanOf passes rows span → IsSpanOf passes rows left
