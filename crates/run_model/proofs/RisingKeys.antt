-- The keys of each table rise strictly, whatever statements run.
use Rattle.std.proofs.Common.{◌≡◌, ℕ, zero, suc, ◌+◌, List, [], ◌∷◌, map, filter, fold, find, Bool, true, false, not, ◌==◌, refl, ap, subst, sym, arith}
use Rattle.std.specs.Prelude.{if◌then◌else◌, Result, Ok, Err, Option, Some, None, slice_get, slice_index_or, slice_set}
use Rattle.std.specs.List.{AllByRecursion, enumerate_from, list_any}
use Rattle.std.specs.List.Sorted.{IsStrictlySortedBy}
use Rattle.std.specs.declared.cmp.Ordering.{Ordering}
use Rattle.std.specs.declared.cmp.Ordering.TheVariants.{Less, Equal, Greater}
use Rattle.own_base.specs.Key.{key_cmp}
use Rattle.own_base.specs.declared.number.ColNo.{ColNo}
use Rattle.own_base.specs.declared.value.Key.{Key}
use Rattle.own_base.specs.declared.value.Value.{Value}
use Rattle.own_base.specs.declared.value.Value.TheVariants.{Null}
use Rattle.page_model.proofs.Ordered.{below_from_above}
use Rattle.own_model.specs.declared.bound.BoundCond.{BoundCond}
use Rattle.own_model.specs.declared.bound.BoundExpr.{BoundExpr}
use Rattle.own_model.specs.declared.schema.TableDef.{TableDef}
use Rattle.own_model.specs.Db.{Row, AreRising, IsRising, as_key, key_of}
use Rattle.own_model.specs.Stored.{has_key, rows_at}
use Rattle.own_model.proofs.KeyOrder.{key_order}
use Rattle.query_model.specs.Truth.{cell, keeps}
use Rattle.run_model.specs.Insert.{and_tuple, with_row, with_tuple, with_tuples}
use Rattle.run_model.specs.Update.{Sets, rows_left, set_value, updated, updated_rows}
use Rattle.run_model.proofs.TableLemmas.{IfRows}

-- what is below the first of rising keys is below each
below_all : (k first : Key) (rest : List Key) → key_cmp k first ≡ Less → AllByRecursion (λ y. key_cmp first y ≡ Less) rest
    → AllByRecursion (λ y. key_cmp k y ≡ Less) rest
below_all k first [] less all = tt
below_all k first (next ∷ rest) less all = (key_order.trans k first next less all.0, below_all k first rest less all.1)

module _ (table : TableDef) (row : Row) where
  below_step : (k : Key) (first : Row) (rest : List Row) → key_cmp k (key_of table row) ≡ Less
      → AllByRecursion (λ y. key_cmp k y ≡ Less) (map (key_of table) (first ∷ rest))
      → AllByRecursion (λ y. key_cmp k y ≡ Less) (map (key_of table) (with_row table row rest))
      → (o : Ordering) → key_cmp (key_of table first) (key_of table row) ≡ o
      → AllByRecursion (λ y. key_cmp k y ≡ Less) (map (key_of table) (with_row table row (first ∷ rest)))
  unfolding with_row
  below_step k first rest less all more Less is = rw is (all.0, more)
  below_step k first rest less all more Equal is = rw is (less, all)
  below_step k first rest less all more Greater is = rw is (less, all)

  -- a key that is below the rows' and the new row's is below them all
  below_with_row : (k : Key) (rows : List Row) → key_cmp k (key_of table row) ≡ Less
      → AllByRecursion (λ y. key_cmp k y ≡ Less) (map (key_of table) rows)
      → AllByRecursion (λ y. key_cmp k y ≡ Less) (map (key_of table) (with_row table row rows))
  unfolding with_row
  below_with_row k [] less all = (less, tt)
  below_with_row k (first ∷ rest) less all = below_step k first rest less all (below_with_row k rest less all.1) _ refl

  rising_step : (first : Row) (rest : List Row) → IsRising table (first ∷ rest)
      → list_any (has_key table (key_of table row)) (first ∷ rest) ≡ false
      → (list_any (has_key table (key_of table row)) rest ≡ false → IsRising table (with_row table row rest))
      → (o : Ordering) → key_cmp (key_of table first) (key_of table row) ≡ o
      → IsRising table (with_row table row (first ∷ rest))
  unfolding with_row IsStrictlySortedBy
  rising_step first rest rising absent more Less is =
      rw is (below_with_row (key_of table first) rest is rising.0, more (rw is at absent))
  rising_step first rest rising absent more Equal is = let never : true ≡ false = rw is at absent in cc
  rising_step first rest rising absent more Greater is =
      let less = below_from_above key_order (key_of table first) (key_of table row) is in
      rw is ((less, below_all (key_of table row) (key_of table first) (map (key_of table) rest) less rising.0), rising)

  -- a row whose key isn't there goes to its place
  pub rising-with_row : (rows : List Row) → IsRising table rows → list_any (has_key table (key_of table row)) rows ≡ false → IsRising table (with_row table row rows)
  unfolding with_row IsStrictlySortedBy
  rising-with_row [] rising absent = (tt, tt)
  rising-with_row (first ∷ rest) rising absent = rising_step first rest rising absent (λ none. rising-with_row rest rising.1 none) _ refl

  tuple_step : (rows new : List Row) → IsRising table rows → (b : Bool) → list_any (has_key table (key_of table row)) rows ≡ b
      → with_tuple table rows row ≡ Ok new → IsRising table new
  unfolding with_tuple
  tuple_step rows new rising true is by = let never : ◌≡◌ {A = Result (List Row) Key} (Err (key_of table row)) (Ok new) = rw is at by in cc
  tuple_step rows new rising false is by =
      let same : with_row table row rows ≡ new = (let both : ◌≡◌ {A = Result (List Row) Key} (Ok (with_row table row rows)) (Ok new) = rw is at by in cc) in
      rw (← same) (rising-with_row rows rising is)

  -- and so does a tuple that is put
  pub rising-with_tuple : (rows new : List Row) → IsRising table rows → with_tuple table rows row ≡ Ok new → IsRising table new
  rising-with_tuple rows new rising by = tuple_step rows new rising _ refl by

rising_next : (table : TableDef) (before : Result (List Row) Key) (tuple : Row) → IfRows (IsRising table) before
    → (r : Result (List Row) Key) → and_tuple table before tuple ≡ r → IfRows (IsRising table) r
rising_next table (Ok rows) tuple rising (Ok new) is = rising-with_tuple table tuple rows new rising is
rising_next table (Err key) tuple rising (Ok new) is = cc
rising_next table before tuple rising (Err key) is = tt

rising_fold : (table : TableDef) (before : Result (List Row) Key) (tuples : List Row) → IfRows (IsRising table) before
    → IfRows (IsRising table) (fold (and_tuple table) before tuples)
rising_fold table before [] rising = rising
rising_fold table before (tuple ∷ tuples) rising =
    rising_fold table (and_tuple table before tuple) tuples (rising_next table before tuple rising _ refl)

-- so do tuples that are put one after another
pub rising-with_tuples : (table : TableDef) (rows tuples : List Row) → IsRising table rows → IfRows (IsRising table) (with_tuples table rows tuples)
unfolding with_tuples
rising-with_tuples table rows tuples rising = rising_fold table (Ok rows) tuples rising

-- where the rows of each table rise, rows that rise stand in the place of those of one
pub rising-set : (tables : List TableDef) (rows : List (List Row)) (number : ℕ) (table : TableDef) (new : List Row) → AreRising tables rows
    → slice_get tables number ≡ Some table → IsRising table new → AreRising tables (slice_set rows number new)
rising-set [] rows number table new rising is news = cc
rising-set (first ∷ tables) [] number table new rising is news = absurd rising
rising-set (first ∷ tables) (one ∷ rows) zero table new rising is news =
    let same : first ≡ table = cc in (subst (λ table. IsRising table new) (sym same) news, rising.1)
rising-set (first ∷ tables) (one ∷ rows) (suc number) table new rising is news = (rising.0, rising-set tables rows number table new rising.1 is news)

-- rows that are changed where they stand, in such a way that any rows that rise still do
pub rising-change : (change : List Row → List Row) → ((table : TableDef) (rows : List Row) → IsRising table rows → IsRising table (change rows))
    → (tables : List TableDef) (rows : List (List Row)) (number : ℕ) → AreRising tables rows → AreRising tables (slice_set rows number (change (rows_at rows number)))
rising-change change keeps [] [] number rising = tt
rising-change change keeps [] (one ∷ rows) number rising = absurd rising
rising-change change keeps (first ∷ tables) [] number rising = absurd rising
rising-change change keeps (first ∷ tables) (one ∷ rows) zero rising = (keeps first one rising.0, rising.1)
rising-change change keeps (first ∷ tables) (one ∷ rows) (suc number) rising = (rising.0, rising-change change keeps tables rows number rising.1)

-- some of the rows
module _ (table : TableDef) (test : Row → Bool) where
  below_filter_step : (P : Key → Type 0) (first : Row) (rest : List Row) → P (key_of table first) → AllByRecursion P (map (key_of table) (filter test rest))
      → (b : Bool) → test first ≡ b → AllByRecursion P (map (key_of table) (filter test (first ∷ rest)))
  below_filter_step P first rest one all true is = rw is (one, all)
  below_filter_step P first rest one all false is = rw is all

  -- what holds of each key holds of those of the rows left
  below_filter : (P : Key → Type 0) (rows : List Row) → AllByRecursion P (map (key_of table) rows) → AllByRecursion P (map (key_of table) (filter test rows))
  below_filter P [] all = tt
  below_filter P (first ∷ rest) all = below_filter_step P first rest all.0 (below_filter P rest all.1) _ refl

  filter_step : (first : Row) (rest : List Row) → IsRising table (first ∷ rest) → IsRising table (filter test rest) → (b : Bool) → test first ≡ b
      → IsRising table (filter test (first ∷ rest))
  unfolding IsStrictlySortedBy
  filter_step first rest rising left true is = rw is (below_filter (λ y. key_cmp (key_of table first) y ≡ Less) rest rising.0, left)
  filter_step first rest rising left false is = rw is left

  -- their keys rise
  pub rising-filter : (rows : List Row) → IsRising table rows → IsRising table (filter test rows)
  unfolding IsStrictlySortedBy
  rising-filter [] rising = tt
  rising-filter (first ∷ rest) rising = filter_step first rest rising (rising-filter rest rising.1) _ refl

-- so do those of the rows that a DELETE leaves
pub rising-rows_left : (table : TableDef) (cond : Option BoundCond) (rows : List Row) → IsRising table rows → IsRising table (rows_left cond rows)
unfolding rows_left
rising-rows_left table cond rows rising = rising-filter table (λ row. not (keeps cond row)) rows rising

-- a change of values that leaves the value of one place
kept_place : (change : ℕ × Value → Value) (number : ℕ) (row : Row) (place : ℕ) → ((value : Value) → change (number + place, value) ≡ value)
    → slice_index_or (map change (enumerate_from number row)) place Null ≡ slice_index_or row place Null
kept_place change number [] place keeps = refl
kept_place change number (value ∷ row) zero keeps =
    let same : number + 0 ≡ number = omega arith in subst (λ n. change (n, value) ≡ value) same (keeps value)
kept_place change number (value ∷ row) (suc place) keeps =
    kept_place change (number + 1) row place
    (λ value. let same : number + suc place ≡ number + 1 + place = omega arith in subst (λ n. change (n, value) ≡ value) same (keeps value))

-- no set is of a table's primary key
abbrev pub AreKeyless : TableDef → Sets → Type 0
AreKeyless table sets = AllByRecursion (λ (set : ColNo × BoundExpr). (set.0.0 == table.key.0) ≡ false) sets

-- so none is found
none_found : (table : TableDef) (sets : Sets) → AreKeyless table sets → find (λ (set : ColNo × BoundExpr). set.0.0 == table.key.0) sets ≡ None
none_found table [] keyless = refl
none_found table (set ∷ sets) keyless = rw (keyless.0) (none_found table sets keyless.1)

module _ (table : TableDef) (sets : Sets) (keyless : AreKeyless table sets) where
  -- an UPDATE leaves what stands in the key's column
  pub cell-updated : (row : Row) → cell (updated sets row) table.key.0 ≡ cell row table.key.0
  unfolding updated
  cell-updated row =
      kept_place (set_value sets row) 0 row table.key.0
      (λ value. let same : 0 + table.key.0 ≡ table.key.0 = omega arith in rw same (rw (none_found table sets keyless) refl))

  -- and so the key of a row
  pub key-updated : (row : Row) → key_of table (updated sets row) ≡ key_of table row
  unfolding key_of
  key-updated row = ap as_key (cell-updated row)

  keys_step : (cond : Option BoundCond) (row : Row) → (b : Bool) → keeps cond row ≡ b
      → key_of table (if keeps cond row then updated sets row else row) ≡ key_of table row
  keys_step cond row true is = rw is (key-updated row)
  keys_step cond row false is = rw is refl

  -- and those of all rows
  pub keys-updated : (cond : Option BoundCond) (rows : List Row) → map (key_of table) (updated_rows sets cond rows) ≡ map (key_of table) rows
  unfolding updated_rows
  keys-updated cond [] = refl
  keys-updated cond (row ∷ rows) = let first = keys_step cond row _ refl in let rest = keys-updated cond rows in cc

  pub rising-updated_rows : (cond : Option BoundCond) (rows : List Row) → IsRising table rows → IsRising table (updated_rows sets cond rows)
  rising-updated_rows cond rows rising = rw (keys-updated cond rows) rising
