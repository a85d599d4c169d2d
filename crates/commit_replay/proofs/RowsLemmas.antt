-- Rows that are put into tables without any.
use Rattle.std.proofs.Common.{◌≡◌, ◌∙◌, ℕ, zero, suc, ◌+◌, ◌<◌, ◌≤◌, List, [], ◌∷◌, ◌++◌, map, length, drop, get_or, Bool, true, false, refl, ap, sym, subst, arith, append-nil, eq-eqb}
use Rattle.std.specs.Prelude.{◌↔◌, ◌≢◌, ◌==◌, Option, None, Some, filter, slice_get}
use Rattle.std.specs.List.{AllByRecursion as Each, IsDistinct}
use Rattle.std.specs.List.Sorted.{IsStrictlySortedBy}
use Rattle.std.specs.declared.cmp.Ordering.TheVariants.{Less}
use Rattle.std.proofs.lemmas.Bool.{eqb-true, ne_eqb}
use Rattle.std.proofs.lemmas.List.{drop_all, drop_more}
use Rattle.std.proofs.lemmas.List.Elements.{filter-append}
use Rattle.own_base.specs.Key.{key_cmp}
use Rattle.own_base.specs.declared.change.Change.{Change}
use Rattle.own_base.specs.declared.row_name.RowName.{RowName}
use Rattle.own_base.specs.declared.value.Key.{Key}
use Rattle.own_model.specs.declared.schema.TableDef.{TableDef}
use Rattle.own_model.specs.Db.{AreRising, Db, IsRising as IsRisingTable, Row, key_of}
use Rattle.own_model.specs.Stored.{row_named, rows_at}
use Rattle.own_model.proofs.KeyOrder.{key_order}
use Rattle.owner_model.specs.Joins.{row_of}
use Rattle.page_model.specs.Changed.{with_changes}
use Rattle.page_model.proofs.ChangedLemmas.{changes_step, filter_all, filter_none}
use Rattle.page_model.proofs.InOrder.{rising_differ}
use Rattle.page_model.proofs.RisingLemmas.{each_append, each_map, each_mapped, each_weaker}
use Rattle.state_model.specs.MayBePut.{IsPutIn, KeysDiffer, MayBePut}
use Rattle.state_model.specs.Put.{changed_key, is_of_table, put_from, row_after, rows_put}
use Rattle.state_model.specs.Rows.{AreRowsOf, IsRowOf}
use Rattle.disk_model.specs.Lawful.{AreKeyedRows, IsKeyedRow}
use Rattle.commit_replay.specs.RowChanges.{AreNextRows, AreTablesOfRows, IsBehind, changes_from, row_change}

-- ---- rows behind one another are those that rise

each-behind : (table : TableDef) (last : Key) (rows : List Row) → AreNextRows table (Some last) rows → Each (λ key. key_cmp last key ≡ Less) (map (key_of table) rows)
each-behind table last [] next = tt
each-behind table last (row ∷ rows) next =
    (next.0.1, each_weaker _ _ (λ key below. key_order.trans last (key_of table row) key next.0.1 below) (map (key_of table) rows) (each-behind table (key_of table row) rows next.1))

rise : (table : TableDef) (last : Option Key) (rows : List Row) → AreNextRows table last rows → IsRisingTable table rows
unfolding IsStrictlySortedBy
rise table last [] next = tt
rise table last (row ∷ rows) next = (each-behind table (key_of table row) rows next.1, rise table (Some (key_of table row)) rows next.1)

keyed : (table : TableDef) (last : Option Key) (rows : List Row) → AreNextRows table last rows → Each (IsKeyedRow table) rows
keyed table last [] next = tt
keyed table last (row ∷ rows) next = (next.0.0, keyed table (Some (key_of table row)) rows next.1)

next-rows : (table : TableDef) (last : Option Key) (rows : List Row) → Each (IsKeyedRow table) rows → IsRisingTable table rows → Each (IsBehind last) (map (key_of table) rows) → AreNextRows table last rows
unfolding IsStrictlySortedBy
next-rows table last [] keyed rising behind = tt
next-rows table last (row ∷ rows) keyed rising behind = ((keyed.0, behind.0), next-rows table (Some (key_of table row)) rows keyed.1 rising.1 rising.0)

behind-none : (keys : List Key) → Each (IsBehind None) keys
behind-none [] = tt
behind-none (key ∷ keys) = (tt, behind-none keys)

-- and so of all tables
pub tables-rise : (tables : List TableDef) (rows : List (List Row)) → AreTablesOfRows tables rows → AreKeyedRows tables rows × AreRising tables rows
tables-rise [] [] are = (tt, tt)
tables-rise [] (one ∷ rest) are = absurd are
tables-rise (table ∷ tables) [] are = absurd are
tables-rise (table ∷ tables) (one ∷ rest) are =
    let more = tables-rise tables rest are.1 in ((keyed table None one are.0, more.0), (rise table None one are.0, more.1))

pub rise-tables : (tables : List TableDef) (rows : List (List Row)) → AreKeyedRows tables rows → AreRising tables rows → AreTablesOfRows tables rows
rise-tables [] [] keyed rising = tt
rise-tables [] (one ∷ rest) keyed rising = absurd keyed
rise-tables (table ∷ tables) [] keyed rising = absurd keyed
rise-tables (table ∷ tables) (one ∷ rest) keyed rising = (next-rows table None one keyed.0 rising.0 (behind-none (map (key_of table) one)), rise-tables tables rest keyed.1 rising.1)

-- there are as many lists as tables
pub tables-length : (tables : List TableDef) (rows : List (List Row)) → AreKeyedRows tables rows → length tables ≡ length rows
tables-length [] [] are = refl
tables-length [] (one ∷ rest) are = absurd are
tables-length (table ∷ tables) [] are = absurd are
tables-length (table ∷ tables) (one ∷ rest) are = ap suc (tables-length tables rest are.1)

-- rows that are keyed may stand
rows-stand : (table : TableDef) (rows : List Row) → Each (IsKeyedRow table) rows → Each (IsRowOf table) rows
rows-stand table rows keyed = each_weaker _ _ (λ row is. is.1.may_stand) rows keyed

pub keyed-stand : (tables : List TableDef) (rows : List (List Row)) → AreKeyedRows tables rows → AreRowsOf tables rows
keyed-stand [] [] are = tt
keyed-stand [] (one ∷ rest) are = absurd are
keyed-stand (table ∷ tables) [] are = absurd are
keyed-stand (table ∷ tables) (one ∷ rest) are = (rows-stand table one are.0, keyed-stand tables rest are.1)

-- ---- the changes of a table, and of those behind it

of-number : (number : ℕ) (table : TableDef) (rows : List Row) → Each (λ change. change.name.table.0 ≡ number) (map (row_change number table) rows)
of-number number table [] = tt
of-number number table (row ∷ rows) = (refl, of-number number table rows)

from-number : (number : ℕ) (tables : List TableDef) (rows : List (List Row)) → Each (λ change. number ≤ change.name.table.0) (changes_from number tables rows)
unfolding changes_from
from-number number [] rows = tt
from-number number (table ∷ tables) [] = tt
from-number number (table ∷ tables) (one ∷ rest) =
    each_append _ (map (row_change number table) one) (changes_from (number + 1) tables rest)
    (each_weaker _ _ (λ change here. let here : change.name.table.0 ≡ number = here in omega arith) _ (of-number number table one))
    (each_weaker _ _ (λ change past. let past : number + 1 ≤ change.name.table.0 = past in omega arith) _ (from-number (number + 1) tables rest))

-- of the changes from a number on those of that number are the first table's
filter-here : (number : ℕ) (table : TableDef) (tables : List TableDef) (one : List Row) (rest : List (List Row))
    → filter (is_of_table number) (map (row_change number table) one ++ changes_from (number + 1) tables rest) ≡ map (row_change number table) one
filter-here number table tables one rest =
    let all = filter_all (is_of_table number) (map (row_change number table) one) (each_weaker _ _ (λ change here. eq-eqb change.name.table.0 number here) _ (of-number number table one)) in
    let none = filter_none (is_of_table number) (changes_from (number + 1) tables rest)
    (each_weaker _ _ (λ change past. let past : number + 1 ≤ change.name.table.0 = past in ne_eqb change.name.table.0 number (λ here. absurd (omega arith))) _ (from-number (number + 1) tables rest)) in
    filter-append (is_of_table number) (map (row_change number table) one) (changes_from (number + 1) tables rest)
    ∙ (ap (λ front. front ++ filter (is_of_table number) (changes_from (number + 1) tables rest)) all ∙ (ap (λ back. map (row_change number table) one ++ back) none ∙ append-nil (map (row_change number table) one)))

-- and of another number those of the others
filter-later : (n number : ℕ) (table : TableDef) (tables : List TableDef) (one : List Row) (rest : List (List Row)) → n ≢ number
    → filter (is_of_table n) (map (row_change number table) one ++ changes_from (number + 1) tables rest) ≡ filter (is_of_table n) (changes_from (number + 1) tables rest)
filter-later n number table tables one rest other =
    let none = filter_none (is_of_table n) (map (row_change number table) one)
    (each_weaker _ _ (λ change here. ne_eqb change.name.table.0 n (λ same. other (sym same ∙ here))) _ (of-number number table one)) in
    filter-append (is_of_table n) (map (row_change number table) one) (changes_from (number + 1) tables rest) ∙ ap (λ front. front ++ filter (is_of_table n) (changes_from (number + 1) tables rest)) none

-- those of the table at a place
filter-at : (number : ℕ) (tables : List TableDef) (rows : List (List Row)) (place : ℕ) (table : TableDef) → length tables ≡ length rows → slice_get tables place ≡ Some table
    → filter (is_of_table (number + place)) (changes_from number tables rows) ≡ map (row_change (number + place) table) (rows_at rows place)
unfolding changes_from
filter-at number [] rows place table long is = let never : ◌≡◌ {A = Option TableDef} None (Some table) = is in cc
filter-at number (first ∷ tables) [] place table long is = absurd (omega arith)
filter-at number (first ∷ tables) (one ∷ rest) zero table long is =
    let same : first ≡ table = cc in
    let none : number ≡ number + 0 = omega arith in
    let here = filter-here number first tables one rest ∙ ap (λ (table : TableDef). map (row_change number table) one) same in
    subst (λ n. filter (is_of_table n) (map (row_change number first) one ++ changes_from (number + 1) tables rest) ≡ map (row_change n table) one) none here
filter-at number (first ∷ tables) (one ∷ rest) (suc place) table long is =
    let shorter : length tables ≡ length rest = omega arith in
    let next : number + 1 + place ≡ number + suc place = omega arith in
    let more = filter-at (number + 1) tables rest place table shorter is in
    filter-later (number + suc place) number first tables one rest (λ same. absurd (omega arith))
    ∙ subst (λ n. filter (is_of_table n) (changes_from (number + 1) tables rest) ≡ map (row_change n table) (rows_at rest place)) next more

-- ---- what they leave

-- rising rows are left where none stood
rows-left : (number : ℕ) (table : TableDef) (rows : List Row) → IsRisingTable table rows
    → with_changes (key_of table) key_cmp changed_key row_after (map (row_change number table) rows) [] ≡ rows
unfolding with_changes IsStrictlySortedBy
rows-left number table [] rising = refl
rows-left number table (row ∷ rows) rising =
    changes_step (key_of table) key_order changed_key row_after (row_change number table row) (map (row_change number table) rows) []
    (each_mapped _ (row_change number table) rows (each_map _ (key_of table) rows rising.0)) refl
    ∙ ap (λ rest. row ∷ rest) (rows-left number table rows rising.1)

-- no table has a row
abbrev pub AreBare : List (List Row) → Type 0
AreBare rows = Each (λ one. one ≡ []) rows

left-from : (number : ℕ) (tables : List TableDef) (bare rows : List (List Row)) (changes : List Change) → length tables ≡ length bare → AreBare bare → AreRising tables rows
    → ((place : ℕ) (table : TableDef) → slice_get tables place ≡ Some table → filter (is_of_table (number + place)) changes ≡ map (row_change (number + place) table) (rows_at rows place))
    → put_from number tables changes bare ≡ rows
unfolding put_from
left-from number [] bare [] changes long none rising own = refl
left-from number [] bare (one ∷ rest) changes long none rising own = absurd rising
left-from number (table ∷ tables) [] rows changes long none rising own = absurd (omega arith)
left-from number (table ∷ tables) (first ∷ bare) [] changes long none rising own = absurd rising
left-from number (table ∷ tables) (first ∷ bare) (one ∷ rest) changes long none rising own =
    let zeroth : number + 0 ≡ number = omega arith in
    let shorter : length tables ≡ length bare = omega arith in
    let mine : filter (is_of_table number) changes ≡ map (row_change number table) one = subst (λ n. filter (is_of_table n) changes ≡ map (row_change n table) one) zeroth (own 0 table refl) in
    let here : rows_put number table changes first ≡ one =
    ap (λ (own : List Change). with_changes (key_of table) key_cmp changed_key row_after own first) mine
    ∙ (ap (with_changes (key_of table) key_cmp changed_key row_after (map (row_change number table) one)) none.0 ∙ rows-left number table one rising.0) in
    let more = left-from (number + 1) tables bare rest changes shorter none.1 rising.1
    (λ place other is.
    let next : number + suc place ≡ number + 1 + place = omega arith in
    subst (λ n. filter (is_of_table n) changes ≡ map (row_change n other) (rows_at rest place)) next (own (suc place) other is)) in
    ap (λ head. head ∷ put_from (number + 1) tables changes bare) here ∙ ap (λ rest. one ∷ rest) more

pub rows-put-left : (tables : List TableDef) (bare rows : List (List Row)) → length tables ≡ length bare → length tables ≡ length rows → AreBare bare → AreRising tables rows
    → put_from 0 tables (changes_from 0 tables rows) bare ≡ rows
rows-put-left tables bare rows long many none rising =
    left-from 0 tables bare rows (changes_from 0 tables rows) long none rising (λ place table is. filter-at 0 tables rows place table many is)

-- ---- they may be put

put-own : (all : List TableDef) (number : ℕ) (table : TableDef) (rows : List Row) → slice_get all number ≡ Some table → Each (IsPutIn all) (map (row_change number table) rows)
put-own all number table [] at = tt
put-own all number table (row ∷ rows) at = (rw at refl, put-own all number table rows at)

put-each : (all : List TableDef) (number : ℕ) (tables : List TableDef) (rows : List (List Row))
    → ((place : ℕ) (table : TableDef) → slice_get tables place ≡ Some table → slice_get all (number + place) ≡ Some table) → Each (IsPutIn all) (changes_from number tables rows)
unfolding changes_from
put-each all number [] rows at = tt
put-each all number (table ∷ tables) [] at = tt
put-each all number (table ∷ tables) (one ∷ rest) at =
    let none : number + 0 ≡ number = omega arith in
    let here = subst (λ n. slice_get all n ≡ Some table) none (at 0 table refl) in
    each_append _ (map (row_change number table) one) (changes_from (number + 1) tables rest) (put-own all number table one here)
    (put-each all (number + 1) tables rest (λ place other is. let next : number + suc place ≡ number + 1 + place = omega arith in subst (λ n. slice_get all n ≡ Some other) next (at (suc place) other is)))

keys-own : (number : ℕ) (table : TableDef) (rows : List Row) → map changed_key (map (row_change number table) rows) ≡ map (key_of table) rows
keys-own number table [] = refl
keys-own number table (row ∷ rows) = ap (λ keys. key_of table row ∷ keys) (keys-own number table rows)

once-from : (n number : ℕ) (tables : List TableDef) (rows : List (List Row)) → AreRising tables rows → KeysDiffer (filter (is_of_table n) (changes_from number tables rows))
unfolding changes_from IsDistinct
once-from n number [] rows rising = tt
once-from n number (table ∷ tables) [] rising = tt
once-from n number (table ∷ tables) (one ∷ rest) rising = by (n == number) refl (once-from n (number + 1) tables rest rising.1)
  where
    by : (b : Bool) → (n == number) ≡ b → KeysDiffer (filter (is_of_table n) (changes_from (number + 1) tables rest))
        → KeysDiffer (filter (is_of_table n) (map (row_change number table) one ++ changes_from (number + 1) tables rest))
    by true is more =
        let same : number ≡ n = sym (eqb-true n number is) in
        let own : KeysDiffer (map (row_change number table) one) = rising_differ key_cmp (map changed_key (map (row_change number table) one)) (subst (IsStrictlySortedBy key_cmp) (sym (keys-own number table one)) rising.0) in
        subst (λ n. KeysDiffer (filter (is_of_table n) (map (row_change number table) one ++ changes_from (number + 1) tables rest))) same (subst KeysDiffer (sym (filter-here number table tables one rest)) own)
    by false apart more =
        let other : n ≢ number = λ same. let here : (n == number) ≡ true = eq-eqb n number same in let never : true ≡ false = sym here ∙ apart in cc in
        subst KeysDiffer (sym (filter-later n number table tables one rest other)) more

at-itself : (tables : List TableDef) (place : ℕ) (table : TableDef) → slice_get tables place ≡ Some table → slice_get tables (0 + place) ≡ Some table
at-itself tables place table is = let none : place ≡ 0 + place = omega arith in subst (λ n. slice_get tables n ≡ Some table) none is

pub rows-may : (tables : List TableDef) (rows : List (List Row)) → AreRising tables rows → MayBePut tables (changes_from 0 tables rows)
rows-may tables rows rising = record { theirs = put-each tables 0 tables rows (at-itself tables); once = λ n. once-from n 0 tables rows rising }

-- ---- and tell what stood

bare-at : (rows : List (List Row)) (n : ℕ) → AreBare rows → rows_at rows n ≡ []
bare-at [] zero none = refl
bare-at [] (suc n) none = refl
bare-at (one ∷ rest) zero none = none.0
bare-at (one ∷ rest) (suc n) none = bare-at rest n none.1

none-named : (db : Db) (name : RowName) → AreBare db.rows → row_of db name ≡ None
unfolding row_named
none-named db name none = by (slice_get db.schema.tables name.table.0) refl
  where
    by : (o : Option TableDef) → slice_get db.schema.tables name.table.0 ≡ o → row_of db name ≡ None
    by None is = rw is refl
    by (Some table) is = rw (is, bare-at db.rows name.table.0 none) refl

-- a change that puts a row where none stood
record IsFirst (change : Change) : Type 0 where
  row : Row
  was : change.before ≡ None
  is : change.after ≡ Some row

first-own : (number : ℕ) (table : TableDef) (rows : List Row) → Each IsFirst (map (row_change number table) rows)
first-own number table [] = tt
first-own number table (row ∷ rows) = (record { row = row; was = refl; is = refl }, first-own number table rows)

first-from : (number : ℕ) (tables : List TableDef) (rows : List (List Row)) → Each IsFirst (changes_from number tables rows)
unfolding changes_from
first-from number [] rows = tt
first-from number (table ∷ tables) [] = tt
first-from number (table ∷ tables) (one ∷ rest) = each_append _ (map (row_change number table) one) (changes_from (number + 1) tables rest) (first-own number table one) (first-from (number + 1) tables rest)

pub rows-was : (db : Db) (tables : List TableDef) (rows : List (List Row)) → AreBare db.rows → Each (λ change. change.before ≡ row_of db change.name) (changes_from 0 tables rows)
rows-was db tables rows none = each_weaker _ _ (λ change first. first.was ∙ sym (none-named db change.name none)) (changes_from 0 tables rows) (first-from 0 tables rows)

pub rows-differ : (tables : List TableDef) (rows : List (List Row)) → Each (λ change. change.before ≢ change.after) (changes_from 0 tables rows)
rows-differ tables rows =
    each_weaker _ _ (λ change first same. let never : ◌≡◌ {A = Option Row} None (Some first.row) = sym first.was ∙ (same ∙ first.is) in cc) (changes_from 0 tables rows) (first-from 0 tables rows)

-- ---- from a table on

module _ (tables : List TableDef) (rows : List (List Row)) (n : ℕ) (table : TableDef) (one : List Row)
    (below : n < length tables) (within : n < length rows) (is : table ≡ get_or tables n table) (has : one ≡ get_or rows n one) where
  first-table : drop n tables ≡ table ∷ drop (n + 1) tables
  first-table = drop_more tables n table below ∙ ap (λ first. first ∷ drop (n + 1) tables) (sym is)

  first-rows : drop n rows ≡ one ∷ drop (n + 1) rows
  first-rows = drop_more rows n one within ∙ ap (λ first. first ∷ drop (n + 1) rows) (sym has)

  -- the first one's rows may stand, and so may the others'
  pub tables-more : AreTablesOfRows (drop n tables) (drop n rows) ↔ (AreNextRows table None one × AreTablesOfRows (drop (n + 1) tables) (drop (n + 1) rows))
  tables-more = rw (first-table, first-rows) ((λ are. are), λ are. are)

  pub changes-more : changes_from n (drop n tables) (drop n rows) ≡ map (row_change n table) one ++ changes_from (n + 1) (drop (n + 1) tables) (drop (n + 1) rows)
  unfolding changes_from
  changes-more = rw (first-table, first-rows) refl

-- behind the last there is none
pub tables-none : (tables : List TableDef) (rows : List (List Row)) (n : ℕ) → length tables ≤ n → length tables ≡ length rows
    → AreTablesOfRows (drop n tables) (drop n rows) × (changes_from n (drop n tables) (drop n rows) ≡ [])
unfolding changes_from
tables-none tables rows n past long = rw (drop_all n tables past, drop_all n rows (omega arith)) (tt, refl)
