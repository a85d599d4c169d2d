-- What a row more does to a table's rows, and to those of a database.
use Rattle.std.proofs.Common.{◌≡◌, ℕ, zero, suc, ◌+◌, List, [], ◌∷◌, length, fold, Bool, true, false, refl, ap, arith}
use Rattle.std.specs.Prelude.{Some, Result, Ok, Err, slice_get, slice_set, sum_by}
use Rattle.std.specs.List.{AllByRecursion, list_any}
use Rattle.std.proofs.lemmas.List.Sums.{sum_by-cons}
use Rattle.own_base.specs.Row.{row_size}
use Rattle.own_base.specs.declared.value.Key.{Key}
use Rattle.own_model.specs.declared.schema.TableDef.{TableDef}
use Rattle.own_model.specs.Db.{Row, key_of}
use Rattle.own_model.specs.Stored.{has_key, rows_at}
use Rattle.run_model.specs.Insert.{and_tuple, precedes, with_row, with_tuple, with_tuples}
use Rattle.state_model.specs.Rows.{AreRowsOf, IsRowOf}

-- a row more in key order, by whatever the rows' measure is
module _ (table : TableDef) (row : Row) where
  all_step : (P : Row → Type 0) (first : Row) (rest : List Row) → P row → P first → AllByRecursion P rest
      → AllByRecursion P (with_row table row rest) → (b : Bool) → precedes table first row ≡ b
      → AllByRecursion P (with_row table row (first ∷ rest))
  unfolding with_row
  all_step P first rest new one all more true is = rw is (one, more)
  all_step P first rest new one all more false is = rw is (new, (one, all))

  -- what holds of each row and of the new one holds of each
  pub all-with_row : (P : Row → Type 0) (rows : List Row) → P row → AllByRecursion P rows → AllByRecursion P (with_row table row rows)
  unfolding with_row
  all-with_row P [] new all = (new, tt)
  all-with_row P (first ∷ rest) new all = all_step P first rest new all.0 all.1 (all-with_row P rest new all.1) _ refl

  length_step : (first : Row) (rest : List Row) → length (with_row table row rest) ≡ length rest + 1 → (b : Bool) → precedes table first row ≡ b
      → length (with_row table row (first ∷ rest)) ≡ length rest + 2
  unfolding with_row
  length_step first rest more true is = rw is (omega arith)
  length_step first rest more false is = rw is (omega arith)

  -- there is one row more
  pub length-with_row : (rows : List Row) → length (with_row table row rows) ≡ length rows + 1
  unfolding with_row
  length-with_row [] = refl
  length-with_row (first ∷ rest) = let step = length_step first rest (length-with_row rest) _ refl in omega arith

  size_step : (first : Row) (rest : List Row) → sum_by row_size (with_row table row rest) ≡ sum_by row_size rest + row_size row
      → (b : Bool) → precedes table first row ≡ b
      → sum_by row_size (with_row table row (first ∷ rest)) ≡ sum_by row_size (first ∷ rest) + row_size row
  unfolding with_row
  size_step first rest more true is =
      rw is (let long = sum_by-cons row_size first (with_row table row rest) in let short = sum_by-cons row_size first rest in omega arith)
  size_step first rest more false is =
      rw is (let long = sum_by-cons row_size row (first ∷ rest) in omega arith)

  -- and its size is added
  pub size-with_row : (rows : List Row) → sum_by row_size (with_row table row rows) ≡ sum_by row_size rows + row_size row
  unfolding with_row
  size-with_row [] = omega arith
  size-with_row (first ∷ rest) = size_step first rest (size-with_row rest) _ refl

-- what holds of the rows, where there are rows and no key that was there already
abbrev pub IfRows : (List Row → Type 0) → Result (List Row) Key → Type 0
IfRows P (Ok rows) = P rows
IfRows P (Err key) = Unit {0}

-- rows and tuples together, each of which has a property
pub record AreTogether (P : Row → Type 0) (rows tuples together : List Row) : Type 0 where
  pub each : AllByRecursion P together
  pub counted : length together ≡ length rows + length tuples
  pub sized : sum_by row_size together ≡ sum_by row_size rows + sum_by row_size tuples

module _ (P : Row → Type 0) (table : TableDef) where
  -- a key that was there stays told
  refused_fold : (Q : List Row → Type 0) (key : Key) (tuples : List Row) → IfRows Q (fold (and_tuple table) (Err key) tuples)
  refused_fold Q key [] = tt
  refused_fold Q key (tuple ∷ tuples) = refused_fold Q key tuples

  -- the first tuple and then the others
  together_first : (rows : List Row) (tuple : Row) (tuples : List Row) (r : Result (List Row) Key) → IfRows (AreTogether P (with_row table tuple rows) tuples) r
      → IfRows (AreTogether P rows (tuple ∷ tuples)) r
  together_first rows tuple tuples (Err key) are = tt
  together_first rows tuple tuples (Ok new) are =
      let counted = are.counted in
      let sized = are.sized in
      let longer = length-with_row table tuple rows in
      let heavier = size-with_row table tuple rows in
      let own = sum_by-cons row_size tuple tuples in
      record { each = are.each; counted = omega arith; sized = omega arith }

  -- by whether the first tuple's key was there
  together_step : (rows : List Row) (tuple : Row) (tuples : List Row)
      → IfRows (AreTogether P (with_row table tuple rows) tuples) (fold (and_tuple table) (Ok (with_row table tuple rows)) tuples)
      → (b : Bool) → list_any (has_key table (key_of table tuple)) rows ≡ b
      → IfRows (AreTogether P rows (tuple ∷ tuples)) (fold (and_tuple table) (with_tuple table rows tuple) tuples)
  unfolding with_tuple
  together_step rows tuple tuples later true is = rw is (refused_fold _ (key_of table tuple) tuples)
  together_step rows tuple tuples later false is = rw is (together_first rows tuple tuples _ later)

  -- rows with tuples, one after another
  pub together-with_tuples : (rows tuples : List Row) → AllByRecursion P rows → AllByRecursion P tuples
      → IfRows (AreTogether P rows tuples) (with_tuples table rows tuples)
  unfolding with_tuples
  together-with_tuples rows [] all more = record { each = all; counted = omega arith; sized = omega arith }
  together-with_tuples rows (tuple ∷ tuples) all more =
      together_step rows tuple tuples
      (together-with_tuples (with_row table tuple rows) tuples (all-with_row table tuple P rows more.0 all) more.1) _ refl

-- a table's rows stand at its number
pub rows-there : (tables : List TableDef) (rows : List (List Row)) (number : ℕ) (table : TableDef) → AreRowsOf tables rows
    → slice_get tables number ≡ Some table → slice_get rows number ≡ Some (rows_at rows number)
rows-there [] rows number table are is = cc
rows-there (first ∷ tables) [] number table are is = absurd are
rows-there (first ∷ tables) (one ∷ rows) zero table are is = refl
rows-there (first ∷ tables) (one ∷ rows) (suc number) table are is = rows-there tables rows number table are.1 is

-- other rows of the table in their place
pub rows-set : (tables : List TableDef) (rows : List (List Row)) (place : ℕ) (table : TableDef) (new : List Row) → AreRowsOf tables rows
    → slice_get tables place ≡ Some table → AllByRecursion (IsRowOf table) new → AreRowsOf tables (slice_set rows place new)
rows-set [] [] place table new are is news = cc
rows-set [] (one ∷ rows) place table new are is news = absurd are
rows-set (first ∷ tables) [] place table new are is news = absurd are
rows-set (first ∷ tables) (one ∷ rows) zero table new are is news =
    let same : first ≡ table = cc in (rw same news, are.1)
rows-set (first ∷ tables) (one ∷ rows) (suc place) table new are is news = (are.0, rows-set tables rows place table new are.1 is news)

-- rows of any table that are changed where they stand, in such a way that each still may stand there
pub rows-change : (change : List Row → List Row)
    → ((table : TableDef) (rows : List Row) → AllByRecursion (IsRowOf table) rows → AllByRecursion (IsRowOf table) (change rows))
    → (tables : List TableDef) (rows : List (List Row)) (place : ℕ) → AreRowsOf tables rows → AreRowsOf tables (slice_set rows place (change (rows_at rows place)))
rows-change change keeps [] [] place are = tt
rows-change change keeps [] (one ∷ rows) place are = absurd are
rows-change change keeps (first ∷ tables) [] place are = absurd are
rows-change change keeps (first ∷ tables) (one ∷ rows) zero are = (keeps first one are.0, are.1)
rows-change change keeps (first ∷ tables) (one ∷ rows) (suc place) are = (are.0, rows-change change keeps tables rows place are.1)

-- a measure of rows that grows in one place
pub sum-set : (measure : List Row → ℕ) (rows : List (List Row)) (place : ℕ) (old new : List Row) (more : ℕ) → slice_get rows place ≡ Some old
    → measure new ≡ measure old + more → sum_by measure (slice_set rows place new) ≡ sum_by measure rows + more
sum-set measure [] place old new more is grows = cc
sum-set measure (one ∷ rows) zero old new more is grows =
    let same : one ≡ old = cc in
    let long = sum_by-cons measure new rows in let short = sum_by-cons measure one rows in
    let own : measure one ≡ measure old = ap measure same in omega arith
sum-set measure (one ∷ rows) (suc place) old new more is grows =
    let long = sum_by-cons measure one (slice_set rows place new) in let short = sum_by-cons measure one rows in
    let later = sum-set measure rows place old new more is grows in omega arith
