-- The index of a store with a table more.
use Rattle.std.proofs.Common.{◌≡◌, refl, sym, ◌∙◌, ap, subst, inl, inr, ℕ, zero, suc, ◌+◌, ◌<◌, List, [], ◌∷◌, ◌++◌, Option, Some, None, length, append-nil, append_assoc, arith}
use Rattle.std.specs.Prelude.{Bool, true, false, ◌||◌, ◌&&◌, ◌==◌, IsTrue, find, slice_get}
use Rattle.std.specs.List.{list_any}
use Rattle.std.specs.Option.{option_and_then, option_map_or}
use Rattle.std.proofs.lemmas.Bool.{cases_lt, eq-eqb}
use Rattle.own_base.specs.declared.number.TableNo.{TableNo}
use Rattle.own_base.specs.declared.value.Key.{Key}
use Rattle.own_model.specs.declared.schema.Column.{Column}
use Rattle.own_model.specs.declared.schema.TableDef.{TableDef}
use Rattle.own_model.specs.Db.{AreRising, Db, IsOrdered, Row}
use Rattle.own_model.specs.Stored.{has_key, row_named, rows_at}
use Rattle.page_model.specs.Found.{found}
use Rattle.page_model.proofs.RisingLemmas.{each_append, each_weaker}
use Rattle.link_model.specs.Indexed.{is_indexed}
use Rattle.ordered_pairs.specs.Has.{has}
use Rattle.ref_index.specs.AddsColumns.{AddsColumns}
use Rattle.ref_index.specs.AddsTable.{AddsTable}
use Rattle.ref_index.specs.IndexOf.{held_by, IsIndexOf, rows_under}
use Rattle.ref_index.specs.Moved.{AreIndexes}
use Rattle.ref_index.specs.Stands.{is_of, Stands}
use Rattle.ref_index.specs.declared.column_index.ColumnIndex.{ColumnIndex}
use Rattle.ref_index.proofs.PutUnder.{alike}

-- whether one of two lists has what passes
any_append : {X : Type 0} (p : X → Bool) (xs ys : List X) → list_any p (xs ++ ys) ≡ (list_any p xs || list_any p ys)
any_append p [] ys = refl
any_append p (x ∷ xs) ys = by (p x) (any_append p xs ys)
  where
    by : (b : Bool) → list_any p (xs ++ ys) ≡ (list_any p xs || list_any p ys) → (b || list_any p (xs ++ ys)) ≡ ((b || list_any p xs) || list_any p ys)
    by true more = refl
    by false more = more

in_front : (a b : Bool) → IsTrue a → IsTrue (a || b)
in_front true b is = refl
in_front false b is = let never : false ≡ true = is in cc

at_back : (a b : Bool) → IsTrue b → IsTrue (a || b)
at_back true b is = refl
at_back false b is = is

-- what stands in a list with one more
get_last : {X : Type 0} (xs : List X) (x y : X) (n : ℕ) → slice_get (xs ++ x ∷ []) n ≡ Some y → slice_get xs n ≡ None → (n ≡ length xs) × (x ≡ y)
get_last [] x y zero is none = (refl, cc)
get_last {X} [] x y (suc n) is none = let never : ◌≡◌ {A = Option X} None (Some y) = is in cc
get_last {X} (first ∷ xs) x y zero is none = let never : ◌≡◌ {A = Option X} (Some first) None = none in cc
get_last (first ∷ xs) x y (suc n) is none = let more = get_last xs x y n is none in (ap suc more.0, more.1)

get_front : {X : Type 0} (xs : List X) (x y : X) (n : ℕ) → slice_get xs n ≡ Some y → slice_get (xs ++ x ∷ []) n ≡ Some y
get_front {X} [] x y n is = let never : ◌≡◌ {A = Option X} None (Some y) = is in cc
get_front (first ∷ xs) x y zero is = is
get_front (first ∷ xs) x y (suc n) is = get_front xs x y n is

get_end : {X : Type 0} (xs : List X) → slice_get xs (length xs) ≡ None
get_end [] = refl
get_end (x ∷ xs) = get_end xs

get_below : {X : Type 0} (xs : List X) (n : ℕ) (x : X) → slice_get xs n ≡ Some x → n < length xs
get_below {X} [] n x is = let never : ◌≡◌ {A = Option X} None (Some x) = is in cc
get_below (first ∷ xs) zero x is = omega arith
get_below (first ∷ xs) (suc n) x is = let more = get_below xs n x is in omega arith

-- each key finds the row that it found
module _ (key : Key) (last : TableDef) where
  abbrev found_in : List TableDef → List (List Row) → ℕ → Option Row
  found_in tables rows number = option_and_then (λ table. find (has_key table key) (rows_at rows number)) (slice_get tables number)

  found_with : (tables : List TableDef) (rows : List (List Row)) (number : ℕ) → AreRising tables rows → found_in (tables ++ last ∷ []) (rows ++ [] ∷ []) number ≡ found_in tables rows number
  found_with [] [] zero rising = refl
  found_with [] [] (suc number) rising = refl
  found_with [] (one ∷ rows) number rising = absurd rising
  found_with (first ∷ tables) [] number rising = absurd rising
  found_with (first ∷ tables) (one ∷ rows) zero rising = refl
  found_with (first ∷ tables) (one ∷ rows) (suc number) rising = found_with tables rows number rising.1

module _ (old new : Db) (definition : TableDef) (ordered : IsOrdered old) (adds : AddsTable old definition new) where
  under_same : (n : ℕ) (key : Key) → rows_under new n key ≡ rows_under old n key
  unfolding row_named
  under_same n key =
      ap (λ tables. option_and_then (λ table. find (has_key table key) (rows_at new.rows n)) (slice_get tables n)) adds.tables
      ∙ (ap (λ rows. option_and_then (λ table. find (has_key table key) (rows_at rows n)) (slice_get (old.schema.tables ++ definition ∷ []) n)) adds.rows
      ∙ found_with key definition old.schema.tables old.rows n ordered.rising)

  -- in the new table nothing is found
  none_under : (key : Key) → rows_under old (length old.schema.tables) key ≡ None
  unfolding row_named
  none_under key = rw get_end refl

  -- so no entry is an index of it
  empty_index : (one : ColumnIndex) (table : TableNo) → table.0 ≡ length old.schema.tables → (one.table ≡ table) × (one.pairs ≡ []) → IsIndexOf one.column.0 (rows_under new one.table.0) one.pairs
  unfolding has found
  empty_index one table last is value key =
      let here : one.table.0 ≡ length old.schema.tables = ap (λ (number : TableNo). number.0) is.0 ∙ last in
      rw is.1 (sym (ap (held_by one.column.0 value) (under_same one.table.0 key ∙ (ap (λ n. rows_under old n key) here ∙ none_under key))))

  -- an index of the old database with those of the new columns is one of the new database
  pub stands_with : (table : TableNo) (before after : List ColumnIndex) → table.0 ≡ length old.schema.tables → Stands old before → AddsColumns table definition.columns (length definition.columns) before after → Stands new after
  stands_with table before after last stands columns =
      let rows : ◌≡◌ {A = ℕ → Key → Option Row} (rows_under old) (rows_under new) = alike _ _ (λ n. alike _ _ (λ key. sym (under_same n key))) in
      let front : AreIndexes (rows_under new) before = subst (λ (under : ℕ → Key → Option Row). AreIndexes under before) rows stands.each in
      let back : AreIndexes (rows_under new) columns.new = each_weaker _ _ (λ one theirs. empty_index one table last theirs) columns.new columns.theirs in
      record {
        each = subst (AreIndexes (rows_under new)) (sym columns.behind) (each_append _ before columns.new front back);
        covers = λ t column indexed. subst (λ index. IsTrue (list_any (is_of t column) index)) (sym columns.behind)
            (subst IsTrue (sym (any_append (is_of t column) before columns.new))
            (by t column (slice_get old.schema.tables t) refl (subst (λ tables. IsTrue (option_map_or (λ (each : TableDef). option_map_or is_indexed (slice_get each.columns column) false) (slice_get tables t) false)) adds.tables indexed)));
      }
    where
      at_column : (t column : ℕ) (each : TableDef) (o : Option Column) → slice_get each.columns column ≡ o → t ≡ table.0 → definition ≡ each → IsTrue (option_map_or is_indexed o false) → IsTrue (list_any (is_of t column) columns.new)
      at_column t column each None none same is indexed = let never : false ≡ true = indexed in cc
      at_column t column each (Some one) at same is indexed =
          let there : slice_get definition.columns column ≡ Some one = ap (λ (d : TableDef). slice_get d.columns column) is ∙ at in
          subst (λ n. IsTrue (list_any (is_of n column) columns.new)) (sym same) (columns.covers column one (get_below definition.columns column one there) there indexed)

      at_table : (t column : ℕ) (o : Option TableDef) → slice_get (old.schema.tables ++ definition ∷ []) t ≡ o → slice_get old.schema.tables t ≡ None
          → IsTrue (option_map_or (λ (each : TableDef). option_map_or is_indexed (slice_get each.columns column) false) o false) → IsTrue (list_any (is_of t column) columns.new)
      at_table t column None none old_none indexed = let never : false ≡ true = indexed in cc
      at_table t column (Some each) at old_none indexed =
          let here = get_last old.schema.tables definition each t at old_none in
          at_column t column each (slice_get each.columns column) refl (here.0 ∙ sym last) here.1 indexed

      by : (t column : ℕ) (o : Option TableDef) → slice_get old.schema.tables t ≡ o
          → IsTrue (option_map_or (λ (each : TableDef). option_map_or is_indexed (slice_get each.columns column) false) (slice_get (old.schema.tables ++ definition ∷ []) t) false)
          → IsTrue (list_any (is_of t column) before || list_any (is_of t column) columns.new)
      by t column None none indexed =
          at_back (list_any (is_of t column) before) (list_any (is_of t column) columns.new) (at_table t column (slice_get (old.schema.tables ++ definition ∷ []) t) refl none indexed)
      by t column (Some each) at indexed =
          let there = get_front old.schema.tables definition each t at in
          in_front (list_any (is_of t column) before) (list_any (is_of t column) columns.new) (stands.covers t column (rw at (rw there at indexed)))

-- one more column: it is indexed, and has an index, or isn't
module _ (table : TableNo) (columns : List Column) (before : List ColumnIndex) where
  pub no_column : AddsColumns table columns 0 before before
  no_column = record { new = []; behind = sym (append-nil before); theirs = tt; covers = λ number column below. absurd (omega arith) }

  pub column_more : (count : ℕ) (made after : List ColumnIndex) (one : ColumnIndex) → after ≡ made ++ one ∷ [] → one.table ≡ table → one.column.0 ≡ count → one.pairs ≡ [] → AddsColumns table columns count before made → AddsColumns table columns (count + 1) before after
  column_more count made after one is theirs number none adds =
      record {
        new = adds.new ++ one ∷ [];
        behind = is ∙ (ap (λ all. all ++ one ∷ []) adds.behind ∙ append_assoc before adds.new (one ∷ []));
        theirs = each_append _ adds.new (one ∷ []) adds.theirs ((theirs, none), tt);
        covers = λ n column below at indexed. subst IsTrue (sym (any_append (is_of table.0 n) adds.new (one ∷ [])))
            (elim (cases_lt n count) [
              | inl less ↦ in_front _ _ (adds.covers n column less at indexed)
              | inr more ↦ let same : one.column.0 ≡ n = omega (arith, number) in
                  at_back (list_any (is_of table.0 n) adds.new) _ (in_front _ false (both (one.table.0 == table.0) (one.column.0 == n) (eq-eqb _ _ (ap (λ (each : TableNo). each.0) theirs)) (eq-eqb _ _ same)))
            ]);
      }
    where
      both : (a b : Bool) → a ≡ true → b ≡ true → IsTrue (a && b)
      both a b first second = rw (first, second) refl

  pub column_passed : (count : ℕ) (made : List ColumnIndex) (column : Column) → slice_get columns count ≡ Some column → is_indexed column ≡ false → AddsColumns table columns count before made → AddsColumns table columns (count + 1) before made
  column_passed count made column here plain adds =
      record {
        new = adds.new;
        behind = adds.behind;
        theirs = adds.theirs;
        covers = λ n other below at indexed. elim (cases_lt n count) [
          | inl less ↦ adds.covers n other less at indexed
          | inr more ↦ let same : n ≡ count = omega arith in
              let both : Some other ≡ Some column = sym at ∙ (ap (slice_get columns) same ∙ here) in
              let one : other ≡ column = cc in
              let never : false ≡ true = sym plain ∙ (ap is_indexed (sym one) ∙ indexed) in
              absurd (cc)
        ];
      }
