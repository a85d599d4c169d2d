-- The tuples of an INSERT by their keys, and the rows of the table with them.
use Rattle.std.proofs.Common.{◌≡◌, ℕ, zero, suc, ◌+◌, ◌<◌, List, [], ◌∷◌, Bool, true, false, cond, fold, length, get_or, take, Option, Some, None, Ordering, refl, sym, ap, ◌∙◌, ◌||◌, arith}
use Rattle.std.specs.Prelude.{Result, Ok, Err, slice_get}
use Rattle.std.specs.BTreeMap.{insert_entry, is_at}
use Rattle.std.specs.List.{AllByRecursion as Each, find, list_any}
use Rattle.std.specs.List.Sorted.{IsStrictlySortedBy}
use Rattle.std.specs.Map.{keys_of, lookup}
use Rattle.std.specs.Option.{is_some}
use Rattle.std.proofs.lemmas.List.Sums.{fold_more}
use Rattle.own_base.specs.Key.{key_cmp}
use Rattle.own_base.specs.declared.number.TableNo.{TableNo}
use Rattle.own_base.specs.declared.value.Key.{Key}
use Rattle.own_model.specs.declared.schema.Schema.{Schema}
use Rattle.own_model.specs.declared.schema.TableDef.{TableDef}
use Rattle.own_model.specs.Db.{Row, key_of}
use Rattle.own_model.specs.Stored.{has_key, row_named, rows_at}
use Rattle.run_model.specs.Insert.{and_tuple, with_row, with_tuple, with_tuples}
use Rattle.run_model.proofs.FoundRows.{any_by_find}
use Rattle.run_model.proofs.InsertLookups.{found-with_row}
use Rattle.run_model.proofs.Overlaps.{at_key}
use Rattle.write_eval.specs.Insertions.{Given, and_given, give, given_tuples, is_taken}
use Rattle.write_eval.proofs.GivenEntries.{each-more, insert_entry-is, length-more, lookup-more, rising-more}

-- the first, else the other
abbrev pub or_else : Option Row → Option Row → Option Row
or_else (Some row) other = Some row
or_else None other = other

-- Rows with the tuples given: under each key stands what is given, else what stood there, and nothing stood under the keys given.
pub record AreWith (table : TableDef) (rows merged : List Row) (given : Given) : Type 0 where
  pub found : (key : Key) → find (has_key table key) merged ≡ or_else (lookup (is_at (key_cmp key)) given) (find (has_key table key) rows)
  pub new : Each (λ (entry : Key × Row). find (has_key table entry.0) rows ≡ None) given
  pub rising : IsStrictlySortedBy key_cmp (keys_of given)

-- both are refused by one key, or the rows are those with the tuples given
abbrev pub AreAlike : TableDef → List Row → Result (List Row) Key → Result Given Key → Type 0
AreAlike table rows (Ok merged) (Ok given) = AreWith table rows merged given
AreAlike table rows (Err key) (Err other) = key ≡ other
AreAlike table rows _ _ = ⊥

module _ (schema : Schema) (all : List (List Row)) (number : TableNo) (table : TableDef) (is : slice_get schema.tables number.0 ≡ Some table) where
  abbrev rows : List Row
  rows = rows_at all number.0

  named : (key : Key) → row_named schema all (record { table = number; key = key }) ≡ find (has_key table key) rows
  unfolding row_named
  named key = rw is refl

  neither : (found : Option Row) (given : Option Row) → is_some found || is_some given ≡ false → (found ≡ None) × (given ≡ None)
  neither None None none = (refl, refl)
  neither None (Some row) none = cc
  neither (Some row) given none = cc

  either : (found : Option Row) (given : Option Row) → is_some (or_else given found) ≡ (is_some found || is_some given)
  either None None = refl
  either (Some row) None = refl
  either None (Some other) = refl
  either (Some row) (Some other) = refl

  module _ (merged : List Row) (given : Given) (with : AreWith table rows merged given) (tuple : Row) where
    abbrev own : Key
    own = key_of table tuple

    -- a key is taken where a row has it
    taken : is_taken schema all given (record { table = number; key = own }) ≡ list_any (has_key table own) merged
    taken =
        rw (named own, any_by_find (has_key table own) merged, with.found own)
        (sym (either (find (has_key table own) rows) (lookup (is_at (key_cmp own)) given)))

    more : is_taken schema all given (record { table = number; key = own }) ≡ false
        → AreWith table rows (with_row table tuple merged) (insert_entry key_cmp given own tuple)
    more free =
        let both = neither (find (has_key table own) rows) (lookup (is_at (key_cmp own)) given) (rw named at free) in
        record {
          found = λ other. rw (found-with_row table other tuple merged (sym taken ∙ free), lookup-more own tuple other given both.1, with.found other, at_key other own)
              (by (has_key table other tuple) (lookup (is_at (key_cmp other)) given) (find (has_key table other) rows));
          new = each-more own tuple (λ (entry : Key × Row). find (has_key table entry.0) rows ≡ None) given with.new both.0 both.1;
          rising = rising-more own tuple given with.rising;
        }
      where
        by : (b : Bool) (found there : Option Row) → cond b (Some tuple) (or_else found there) ≡ or_else (cond b (Some tuple) found) there
        by true found there = refl
        by false found there = refl

    alike_step : (b : Bool) → is_taken schema all given (record { table = number; key = own }) ≡ b
        → AreAlike table rows (with_tuple table merged tuple) (give schema all number table given tuple)
    unfolding with_tuple give
    alike_step true is = rw (is, sym taken ∙ is) refl
    alike_step false is = rw (is, sym taken ∙ is) (more is)

  alike_next : (before : Result (List Row) Key) (given : Result Given Key) (tuple : Row) → AreAlike table rows before given
      → AreAlike table rows (and_tuple table before tuple) (and_given schema all number table given tuple)
  alike_next (Ok merged) (Ok given) tuple alike = alike_step merged given alike tuple _ refl
  alike_next (Err key) (Err other) tuple alike = alike
  alike_next (Ok merged) (Err other) tuple alike = absurd alike
  alike_next (Err key) (Ok given) tuple alike = absurd alike

  alike_fold : (before : Result (List Row) Key) (given : Result Given Key) (tuples : List Row) → AreAlike table rows before given
      → AreAlike table rows (fold (and_tuple table) before tuples) (fold (and_given schema all number table) given tuples)
  alike_fold before given [] alike = alike
  alike_fold before given (tuple ∷ tuples) alike =
      alike_fold (and_tuple table before tuple) (and_given schema all number table given tuple) tuples (alike_next before given tuple alike)

  -- an INSERT takes the tuples that are given, or is refused by the same key
  pub alike-tuples : (tuples : List Row) → AreAlike table rows (with_tuples table rows tuples) (given_tuples schema all number table tuples)
  unfolding with_tuples given_tuples IsStrictlySortedBy
  alike-tuples tuples = alike_fold (Ok rows) (Ok []) tuples (record { found = λ key. refl; new = tt; rising = tt })

-- as many rows are given, where none was refused
abbrev pub IsAsLong : ℕ → Result Given Key → Type 0
IsAsLong count (Ok given) = length given ≡ count
IsAsLong count (Err key) = Unit {0}

module _ (schema : Schema) (all : List (List Row)) (number : TableNo) (table : TableDef) where
  long_step : (count : ℕ) (given : Given) (tuple : Row) → length given ≡ count → (found : Option Row)
      → row_named schema all (record { table = number; key = key_of table tuple }) ≡ found
      → (before : Option Row) → lookup (is_at (key_cmp (key_of table tuple))) given ≡ before → IsAsLong (count + 1) (give schema all number table given tuple)
  unfolding give
  long_step count given tuple long (Some row) is before also = rw is tt
  long_step count given tuple long None is (Some row) also = rw (is, also) tt
  long_step count given tuple long None is None also = rw (is, also) (length-more (key_of table tuple) tuple given also ∙ ap (λ n. n + 1) long)

  long_next : (count : ℕ) (before : Result Given Key) (tuple : Row) → IsAsLong count before → IsAsLong (count + 1) (and_given schema all number table before tuple)
  long_next count (Ok given) tuple long = long_step count given tuple long _ refl _ refl
  long_next count (Err key) tuple long = tt

  long_fold : (count : ℕ) (before : Result Given Key) (tuples : List Row) → IsAsLong count before
      → IsAsLong (count + length tuples) (fold (and_given schema all number table) before tuples)
  long_fold count before [] long = let same : count + 0 ≡ count = omega arith in rw same long
  long_fold count before (tuple ∷ tuples) long =
      let same : count + length (tuple ∷ tuples) ≡ count + 1 + length tuples = omega arith in
      rw same (long_fold (count + 1) (and_given schema all number table before tuple) tuples (long_next count before tuple long))

  -- each tuple gives a row
  pub length-given : (tuples : List Row) (given : Given) → given_tuples schema all number table tuples ≡ Ok given → length given ≡ length tuples
  unfolding given_tuples
  length-given tuples given is = let long : IsAsLong (0 + length tuples) (Ok given) = rw is at (long_fold 0 (Ok []) tuples refl) in omega (arith, long)

-- a tuple whose key is taken, and one whose key is free
module _ (schema : Schema) (all : List (List Row)) (number : TableNo) (table : TableDef) (given : Given) (tuple : Row) where
  pub give-taken : (key : Key) → key ≡ key_of table tuple → is_taken schema all given (record { table = number; key = key }) ≡ true
      → Err key ≡ give schema all number table given tuple
  unfolding give
  give-taken key own is = let here : is_taken schema all given (record { table = number; key = key_of table tuple }) ≡ true = rw own at is in rw here (ap Err own)

  pub give-free : (order : Key → Key → Ordering) → ((left right : Key) → order left right ≡ key_cmp left right) → (key : Key) (row : Row) (after : Given)
      → key ≡ key_of table tuple → is_taken schema all given (record { table = number; key = key }) ≡ false → after ≡ insert_entry order given key row → row ≡ tuple
      → Ok after ≡ give schema all number table given tuple
  unfolding give
  give-free order same key row after own is put copied =
      let here : is_taken schema all given (record { table = number; key = key_of table tuple }) ≡ false = rw own at is in
      rw here (ap Ok (put ∙ (insert_entry-is order same given key row ∙ rw (own, copied) refl)))

module _ (schema : Schema) (all : List (List Row)) (number : TableNo) (table : TableDef) where
  -- once a key is taken no tuple counts
  refused : (key : Key) (tuples : List Row) → fold (and_given schema all number table) (Err key) tuples ≡ Err key
  refused key [] = refl
  refused key (tuple ∷ tuples) = refused key tuples

  refused_from : (start : Result Given Key) (key : Key) (n : ℕ) (tuples : List Row) → fold (and_given schema all number table) start (take n tuples) ≡ Err key
      → fold (and_given schema all number table) start tuples ≡ Err key
  refused_from start key zero [] is = is
  refused_from start key (suc n) [] is = is
  refused_from start key zero (tuple ∷ tuples) is = rw is (refused key (tuple ∷ tuples))
  refused_from start key (suc n) (tuple ∷ tuples) is = refused_from (and_given schema all number table start tuple) key n tuples is

  -- so an INSERT is refused by the first key that is taken
  pub refused_at : (tuples : List Row) (i : ℕ) (tuple : Row) (given : Given) (key : Key) → i < length tuples → tuple ≡ get_or tuples i tuple
      → Ok given ≡ fold (and_given schema all number table) (Ok []) (take i tuples) → Err key ≡ give schema all number table given tuple
      → Err key ≡ given_tuples schema all number table tuples
  unfolding given_tuples
  refused_at tuples i tuple given key within here so_far taken =
      let more : fold (and_given schema all number table) (Ok []) (take (i + 1) tuples) ≡ Err key =
      rw (fold_more (and_given schema all number table) (Ok []) tuples i tuple within, ← here, ← so_far) (sym taken) in
      sym (refused_from (Ok []) key (i + 1) tuples more)
