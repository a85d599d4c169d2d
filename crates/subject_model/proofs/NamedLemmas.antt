-- The rows of a database with their names.
use Rattle.std.proofs.Common.{◌≡◌, ℕ, zero, suc, ◌+◌, List, [], ◌∷◌, map, Bool, true, false, cond, inl, inr, refl, ap, ◌∙◌, subst, arith, eq-eqb}
use Rattle.std.specs.Prelude.{◌⊎◌, ◌==◌, ◌↔◌, Contains, IsTrue, Option, Some, None, find, is_some, slice_get}
use Rattle.std.specs.Option.{option_and_then}
use Rattle.std.specs.List.Sorted.{IsStrictlySortedBy}
use Rattle.std.specs.declared.cmp.Ordering.{Ordering}
use Rattle.std.specs.declared.cmp.Ordering.TheVariants.{Less, Equal, Greater}
use Rattle.std.proofs.lemmas.Bool.{and_from, and_parts, eqb-true}
use Rattle.std.proofs.lemmas.Cmp.{tied_itself}
use Rattle.std.proofs.lemmas.List.Elements.{Contains-append_cases, Contains-append_left, Contains-append_right}
use Rattle.std.proofs.lemmas.Map.Lookups.{exact_bytes, exact_signed}
use Rattle.own_base.specs.Key.{key_cmp}
use Rattle.own_base.specs.declared.row_name.RowName.{RowName}
use Rattle.own_base.specs.declared.value.Key.{Key}
use Rattle.own_base.specs.declared.value.Key.TheVariants.{Int, Text}
use Rattle.own_model.specs.declared.schema.TableDef.{TableDef}
use Rattle.own_model.specs.Db.{AreRising, Db, IsOrdered, IsRising, Row, key_of}
use Rattle.own_model.specs.Stored.{has_key, is_equal, row_named, rows_at}
use Rattle.own_model.proofs.KeyOrder.{key_order}
use Rattle.owner_model.specs.Joins.{row_of}
use Rattle.subject_model.specs.Named.{NamedRow, is_name, is_there, name_of, named_rows, rows_from, rows_in}
use Rattle.subject_model.proofs.Members.{all_contained, contains_cases, contains_here, contains_later, contains_map, contains_none, contains_of_map}

-- keys that compare as equal are one
key_exact : (one other : Key) → key_cmp one other ≡ Equal → one ≡ other
key_exact (Int one) (Int other) is = ap Int (exact_signed one other is)
key_exact (Int one) (Text other) is = cc
key_exact (Text one) (Int other) is = cc
key_exact (Text one) (Text other) is = ap Text (exact_bytes one other is)

pub equal_is : (o : Ordering) → is_equal o ≡ true → o ≡ Equal
equal_is Less is = cc
equal_is Equal is = refl
equal_is Greater is = cc

-- the test on keys says whether they are one
pub one_key : (one other : Key) → is_equal (key_cmp one other) ≡ true → one ≡ other
one_key one other is = key_exact one other (equal_is _ is)

pub key_is : (key : Key) → is_equal (key_cmp key key) ≡ true
key_is key = rw (tied_itself key_order key) refl

-- and so does the test on names
pub one_name : (one other : RowName) → is_name one other ≡ true → one ≡ other
one_name one other is =
    let both = and_parts (one.table.0 == other.table.0) (is_equal (key_cmp one.key other.key)) is in
    let table : one.table.0 ≡ other.table.0 = eqb-true one.table.0 other.table.0 both.0 in
    let name : ℕ → Key → RowName = λ number key. record { table = record { 0 = number }; key = key } in
    ap (λ number. name number one.key) table ∙ ap (name other.table.0) (one_key one.key other.key both.1)

pub name_is : (one other : RowName) → one ≡ other → is_name one other ≡ true
name_is one other same = subst (λ name. is_name one name ≡ true) same (and_from _ _ (eq-eqb one.table.0 one.table.0 refl) (key_is one.key))

-- two names are one exactly where the test says so
pub is_name-iff_one : (one other : RowName) → IsTrue (is_name one other) ↔ (one ≡ other)
is_name-iff_one one other = (one_name one other, name_is one other)

-- what a find gives, stands in the list and passes
found : (test : Row → Bool) (xs : List Row) (x : Row) → find test xs ≡ Some x → Contains xs x × (test x ≡ true)
found test [] x is = let never : ◌≡◌ {A = Option Row} None (Some x) = is in cc
found test (first ∷ xs) x is = by (found test xs x) (test first) refl is
  where
    by : (find test xs ≡ Some x → Contains xs x × (test x ≡ true)) → (b : Bool) → test first ≡ b → cond b (Some first) (find test xs) ≡ Some x → Contains (first ∷ xs) x × (test x ≡ true)
    by more true passes here = let same : first ≡ x = cc in (subst (Contains (first ∷ xs)) same (contains_here first xs), subst (λ y. test y ≡ true) same passes)
    by more false fails there = let later = more there in (contains_later first xs x later.0, later.1)

-- a row of a table is found by its key
found_by_key : (table : TableDef) (rows : List Row) (row : Row) → IsRising table rows → Contains rows row → find (has_key table (key_of table row)) rows ≡ Some row
unfolding IsStrictlySortedBy
found_by_key table [] row rising among = absurd (contains_none row among)
found_by_key table (first ∷ rows) row rising among = by (found_by_key table rows row rising.1) (contains_cases first rows row among)
  where
    by : (Contains rows row → find (has_key table (key_of table row)) rows ≡ Some row) → (first ≡ row) ⊎ Contains rows row → find (has_key table (key_of table row)) (first ∷ rows) ≡ Some row
    by more (inl here) =
        let own : has_key table (key_of table row) first ≡ true = subst (λ r. has_key table (key_of table r) first ≡ true) here (key_is (key_of table first)) in
        rw own (ap Some here)
    by more (inr later) =
        let below : key_cmp (key_of table first) (key_of table row) ≡ Less =
        all_contained (λ key. key_cmp (key_of table first) key ≡ Less) (map (key_of table) rows) (key_of table row) rising.0 (contains_map (key_of table) rows row later) in
        let other : has_key table (key_of table row) first ≡ false = ap is_equal below in
        rw other (more later)

-- the row of this key in the table of a number
abbrev row_at : List TableDef → List (List Row) → ℕ → Key → Option Row
row_at tables rows place key = option_and_then (λ table. find (has_key table key) (rows_at rows place)) (slice_get tables place)

-- a row that a table's list of named rows has
pub record IsAt (number : ℕ) (tables : List TableDef) (rows : List (List Row)) (named : NamedRow) : Type 0 where
  pub place : ℕ
  pub table_is : named.name.table.0 ≡ number + place
  pub row_is : row_at tables rows place named.name.key ≡ Some named.row

pub at_from : (number : ℕ) (tables : List TableDef) (rows : List (List Row)) (named : NamedRow) → AreRising tables rows → Contains (rows_from number tables rows) named → IsAt number tables rows named
unfolding rows_from
at_from number [] rows named rising among = absurd (contains_none named among)
at_from number (table ∷ tables) [] named rising among = absurd (contains_none named among)
at_from number (table ∷ tables) (rows ∷ rest) named rising among =
    by (at_from (number + 1) tables rest named rising.1) (Contains-append_cases (rows_in number table rows) (rows_from (number + 1) tables rest) named among)
  where
    by : (Contains (rows_from (number + 1) tables rest) named → IsAt (number + 1) tables rest named)
        → Contains (rows_in number table rows) named ⊎ Contains (rows_from (number + 1) tables rest) named → IsAt number (table ∷ tables) (rows ∷ rest) named
    by more (inl own) =
        let (row, at, is) = contains_of_map (λ row. record { name = name_of number table row; row = row }) rows named own in
        let there : find (has_key table (key_of table row)) rows ≡ Some row = found_by_key table rows row rising.0 at in
        record {
          place = 0;
          table_is = let same : number ≡ named.name.table.0 = ap (λ n. n.name.table.0) is in omega arith;
          row_is = subst (λ n. find (has_key table n.name.key) rows ≡ Some n.row) is there;
        }
    by more (inr later) =
        let there = more later in
        record { place = suc there.place; table_is = let same = there.table_is in omega arith; row_is = there.row_is }

from_at : (number : ℕ) (tables : List TableDef) (rows : List (List Row)) (named : NamedRow) (place : ℕ) → AreRising tables rows → named.name.table.0 ≡ number + place
    → row_at tables rows place named.name.key ≡ Some named.row → Contains (rows_from number tables rows) named
unfolding rows_from
from_at number [] rows named place rising table_is row_is = let never : ◌≡◌ {A = Option Row} None (Some named.row) = row_is in cc
from_at number (table ∷ tables) [] named place rising table_is row_is = absurd rising
from_at number (table ∷ tables) (rows ∷ rest) named zero rising table_is row_is =
    let there = found (has_key table named.name.key) rows named.row row_is in
    let key : key_of table named.row ≡ named.name.key = one_key _ _ there.1 in
    let own : number ≡ named.name.table.0 = omega arith in
    let name : ℕ → Key → NamedRow = λ n k. record { name = record { table = record { 0 = n }; key = k }; row = named.row } in
    let same : name number (key_of table named.row) ≡ named = ap (λ n. name n (key_of table named.row)) own ∙ ap (name named.name.table.0) key in
    Contains-append_left (rows_in number table rows) (rows_from (number + 1) tables rest) named
    (subst (Contains (rows_in number table rows)) same (contains_map (λ row. record { name = name_of number table row; row = row }) rows named.row there.0))
from_at number (table ∷ tables) (rows ∷ rest) named (suc place) rising table_is row_is =
    Contains-append_right (rows_in number table rows) (rows_from (number + 1) tables rest) named (from_at (number + 1) tables rest named place rising.1 (omega arith) row_is)

-- a row that is there is found by its name
pub row_of-named : (db : Db) (named : NamedRow) → IsOrdered db → Contains (named_rows db) named → row_of db named.name ≡ Some named.row
unfolding row_named
row_of-named db named ordered among =
    let there = at_from 0 db.schema.tables db.rows named ordered.rising among in
    let place : there.place ≡ named.name.table.0 = omega (arith, there.table_is) in
    subst (λ n. row_at db.schema.tables db.rows n named.name.key ≡ Some named.row) place there.row_is

-- and what is found is a row of that name
pub named-row_of : (db : Db) (named : NamedRow) → IsOrdered db → row_of db named.name ≡ Some named.row → Contains (named_rows db) named
unfolding row_named
named-row_of db named ordered is = from_at 0 db.schema.tables db.rows named named.name.table.0 ordered.rising (omega arith) is

-- the named rows are exactly the rows that are found by their names
pub named_rows-iff_found : (db : Db) (named : NamedRow) → IsOrdered db → Contains (named_rows db) named ↔ (row_of db named.name ≡ Some named.row)
named_rows-iff_found db named ordered = (row_of-named db named ordered, named-row_of db named ordered)

some_row : (o : Option Row) → is_some o ≡ true → (row : Row) × (o ≡ Some row)
some_row None is = let never : false ≡ true = is in cc
some_row (Some row) is = (row, refl)

-- a row that is there has its place among the named rows
pub named-there : (db : Db) (name : RowName) → IsOrdered db → is_there db name ≡ true → (row : Row) × Contains (named_rows db) (record { name = name; row = row })
named-there db name ordered there =
    let found = some_row (row_of db name) there in
    (found.0, named-row_of db (record { name = name; row = found.0 }) ordered found.1)

-- each named row is there
pub there-named : (db : Db) (named : NamedRow) → IsOrdered db → Contains (named_rows db) named → is_there db named.name ≡ true
there-named db named ordered among = ap is_some (row_of-named db named ordered among)

some_table : (tables : List TableDef) (n : ℕ) (f : TableDef → Option Row) → is_some (option_and_then f (slice_get tables n)) ≡ true → (table : TableDef) × (slice_get tables n ≡ Some table)
some_table tables n f there = by (slice_get tables n) refl there
  where
    by : (o : Option TableDef) → slice_get tables n ≡ o → is_some (option_and_then f o) ≡ true → (table : TableDef) × (slice_get tables n ≡ Some table)
    by None none some = let never : false ≡ true = some in cc
    by (Some table) is some = (table, is)

-- the table of a row that is there
pub table-there : (db : Db) (name : RowName) → is_there db name ≡ true → (table : TableDef) × (slice_get db.schema.tables name.table.0 ≡ Some table)
unfolding row_named
table-there db name there = some_table db.schema.tables name.table.0 (λ table. find (has_key table name.key) (rows_at db.rows name.table.0)) there
