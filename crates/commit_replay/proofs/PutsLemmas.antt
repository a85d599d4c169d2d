-- Puts that rise by name, and the changes that they make.
use Rattle.std.proofs.Common.{◌≡◌, ◌∙◌, ℕ, ◌+◌, suc, List, [], ◌∷◌, map, Bool, true, false, cond, refl, ap, sym, subst, arith}
use Rattle.std.specs.Prelude.{Option, None, Some, IfSome, filter, slice_get}
use Rattle.std.specs.List.{AllByRecursion as Each, IsDistinct}
use Rattle.std.specs.List.Sorted.{IsStrictlySortedBy}
use Rattle.std.specs.Ordering.{is_eq, nat_cmp, ordering_then}
use Rattle.std.specs.declared.cmp.Ordering.TheVariants.{Less, Equal}
use Rattle.std.proofs.lemmas.Bool.{eqb-true}
use Rattle.std.proofs.lemmas.Cmp.{nat_cmp_total, tied_itself}
use Rattle.own_base.specs.Key.{key_cmp}
use Rattle.own_base.specs.declared.change.Change.{Change}
use Rattle.own_base.specs.declared.value.Key.{Key}
use Rattle.own_model.specs.declared.schema.TableDef.{TableDef}
use Rattle.own_model.specs.Db.{Db, Row, key_of}
use Rattle.page_model.specs.Changed.{with_changes}
use Rattle.page_model.proofs.ChangedLemmas.{each_with_changes}
use Rattle.own_model.proofs.KeyOrder.{key_order}
use Rattle.subject_model.specs.NameOrder.{name_cmp}
use Rattle.state_model.specs.MayBePut.{IsPutIn, KeysDiffer, MayBePut}
use Rattle.state_model.specs.Put.{changed_key, is_of_table, put, put_from, row_after, rows_put}
use Rattle.state_model.specs.Rows.{AreRowsOf, IsRowOf}
use Rattle.disk_model.specs.declared.commit.Put.{Put}
use Rattle.disk_model.specs.Follows.{after_from, is_of_table as puts_table, with_puts}
use Rattle.disk_model.specs.Lawful.{IsLawfulPut, IsLawfulState}
use Rattle.disk_model.specs.PutOf.{put_of, puts_of}
use Rattle.commit_replay.proofs.FitLemmas.{under-key}

-- ---- names that rise

-- of one table names stand as their keys do
same-table : (n m : ℕ) (one other : Key) → n ≡ m → ordering_then (nat_cmp n m) (key_cmp one other) ≡ Less → key_cmp one other ≡ Less
same-table n m one other same less =
    let tied : nat_cmp n m ≡ Equal = ap (nat_cmp n) (sym same) ∙ tied_itself nat_cmp_total n in
    let whole : ordering_then (nat_cmp n m) (key_cmp one other) ≡ key_cmp one other = ap (λ o. ordering_then o (key_cmp one other)) tied in
    sym whole ∙ less

-- those of a table behind a change have other keys
apart-behind : (n : ℕ) (change : Change) (later : List Change) → change.name.table.0 ≡ n → Each (λ name. name_cmp change.name name ≡ Less) (map (λ change. change.name) later)
    → Each (λ key. is_eq (key_cmp change.name.key key) ≡ false) (map changed_key (filter (is_of_table n) later))
apart-behind n change [] here below = tt
apart-behind n change (next ∷ later) here below = by (is_of_table n next) refl (apart-behind n change later here below.1)
  where
    by : (b : Bool) → is_of_table n next ≡ b → Each (λ key. is_eq (key_cmp change.name.key key) ≡ false) (map changed_key (filter (is_of_table n) later))
        → Each (λ key. is_eq (key_cmp change.name.key key) ≡ false) (map changed_key (cond b (next ∷ filter (is_of_table n) later) (filter (is_of_table n) later)))
    by true of more =
        let same : change.name.table.0 ≡ next.name.table.0 = here ∙ sym (eqb-true next.name.table.0 n of) in
        (ap is_eq (same-table change.name.table.0 next.name.table.0 change.name.key next.name.key same below.0), more)
    by false other more = more

rising-once : (changes : List Change) (n : ℕ) → IsStrictlySortedBy name_cmp (map (λ change. change.name) changes) → KeysDiffer (filter (is_of_table n) changes)
unfolding IsStrictlySortedBy IsDistinct
rising-once [] n rising = tt
rising-once (change ∷ changes) n rising = by (is_of_table n change) refl (rising-once changes n rising.1)
  where
    by : (b : Bool) → is_of_table n change ≡ b → KeysDiffer (filter (is_of_table n) changes) → KeysDiffer (cond b (change ∷ filter (is_of_table n) changes) (filter (is_of_table n) changes))
    by true of more = (apart-behind n change changes (eqb-true change.name.table.0 n of) rising.0, more)
    by false other more = more

-- ---- puts and changes leave the same

filter-puts : (n : ℕ) (changes : List Change) → filter (puts_table n) (puts_of changes) ≡ puts_of (filter (is_of_table n) changes)
filter-puts n [] = refl
filter-puts n (change ∷ changes) = by (is_of_table n change) (filter-puts n changes)
  where
    by : (b : Bool) → filter (puts_table n) (puts_of changes) ≡ puts_of (filter (is_of_table n) changes)
        → cond b (put_of change ∷ filter (puts_table n) (puts_of changes)) (filter (puts_table n) (puts_of changes)) ≡ puts_of (cond b (change ∷ filter (is_of_table n) changes) (filter (is_of_table n) changes))
    by true more = ap (λ puts. put_of change ∷ puts) more
    by false more = more

rows-puts : (table : TableDef) (changes : List Change) (rows : List Row)
    → with_changes (key_of table) key_cmp (λ (put : Put). put.name.key) (λ (put : Put). put.after) (puts_of changes) rows ≡ with_changes (key_of table) key_cmp changed_key row_after changes rows
unfolding with_changes
rows-puts table [] rows = refl
rows-puts table (change ∷ changes) rows = rows-puts table changes _

after-puts : (number : ℕ) (tables : List TableDef) (changes : List Change) (rows : List (List Row)) → after_from number tables (puts_of changes) rows ≡ put_from number tables changes rows
unfolding after_from put_from
after-puts number [] changes rows = refl
after-puts number (table ∷ tables) changes [] = refl
after-puts number (table ∷ tables) changes (one ∷ rows) =
    let here = ap (λ (puts : List Put). with_changes (key_of table) key_cmp (λ (put : Put). put.name.key) (λ (put : Put). put.after) puts one) (filter-puts number changes)
    ∙ rows-puts table (filter (is_of_table number) changes) one in
    ap (λ first. first ∷ after_from (number + 1) tables (puts_of changes) rows) here ∙ ap (λ rest. rows_put number table changes one ∷ rest) (after-puts (number + 1) tables changes rows)

pub with-puts : (db : Db) (changes : List Change) → with_puts db (puts_of changes) ≡ put db changes
with-puts db changes = ap (λ rows. record db { rows = rows }) (after-puts 0 db.schema.tables changes db.rows)

-- ---- lawful puts

-- the row that a put leaves has its key
keyed-state : (table : TableDef) (key : Key) (state : Option Row) → IsLawfulState table key state → IfSome state (λ row. key_of table row ≡ key)
keyed-state table key None lawful = tt
keyed-state table key (Some row) lawful = under-key table key row lawful

put-in : (db : Db) (change : Change) → IsLawfulPut db (put_of change) → IsPutIn db.schema.tables change
put-in db change lawful = rw lawful.is_there (keyed-state lawful.table change.name.key change.after lawful.after)

puts-in : (db : Db) (changes : List Change) → Each (IsLawfulPut db) (puts_of changes) → Each (IsPutIn db.schema.tables) changes
puts-in db [] lawful = tt
puts-in db (change ∷ changes) lawful = (put-in db change lawful.0, puts-in db changes lawful.1)

-- so changes that rise may be put
pub may-puts : (db : Db) (changes : List Change) → IsStrictlySortedBy name_cmp (map (λ change. change.name) changes) → Each (IsLawfulPut db) (puts_of changes) → MayBePut db.schema.tables changes
may-puts db changes rising lawful = record { theirs = puts-in db changes lawful; once = λ n. rising-once changes n rising }

-- and the rows that they leave may stand
stands-state : (table : TableDef) (key : Key) (state : Option Row) → IsLawfulState table key state → IfSome state (IsRowOf table)
stands-state table key None lawful = tt
stands-state table key (Some row) lawful = lawful.may_stand

abbrev done : TableDef → Option TableDef
done table = Some table

stands-own : (db : Db) (n : ℕ) (table : TableDef) (changes : List Change) → slice_get db.schema.tables n ≡ Some table → Each (IsLawfulPut db) (puts_of changes)
    → Each (λ change. IfSome change.after (IsRowOf table)) (filter (is_of_table n) changes)
stands-own db n table [] there lawful = tt
stands-own db n table (change ∷ changes) there lawful = by (is_of_table n change) refl (stands-own db n table changes there lawful.1)
  where
    by : (b : Bool) → is_of_table n change ≡ b → Each (λ change. IfSome change.after (IsRowOf table)) (filter (is_of_table n) changes)
        → Each (λ change. IfSome change.after (IsRowOf table)) (cond b (change ∷ filter (is_of_table n) changes) (filter (is_of_table n) changes))
    by true of more =
        let both : done lawful.0.table ≡ done table = sym lawful.0.is_there ∙ (ap (slice_get db.schema.tables) (eqb-true change.name.table.0 n of) ∙ there) in
        let same : lawful.0.table ≡ table = cc in
        (stands-state table change.name.key change.after (subst (λ (table : TableDef). IsLawfulState table change.name.key change.after) same lawful.0.after), more)
    by false other more = more

stand-from : (number : ℕ) (tables : List TableDef) (changes : List Change) (rows : List (List Row)) → AreRowsOf tables rows
    → ((place : ℕ) (table : TableDef) → slice_get tables place ≡ Some table → Each (λ change. IfSome change.after (IsRowOf table)) (filter (is_of_table (number + place)) changes))
    → AreRowsOf tables (put_from number tables changes rows)
unfolding put_from
stand-from number [] changes [] rows stand = tt
stand-from number [] changes (one ∷ rest) rows stand = absurd rows
stand-from number (table ∷ tables) changes [] rows stand = absurd rows
stand-from number (table ∷ tables) changes (one ∷ rest) rows stand =
    let none : number + 0 ≡ number = omega arith in
    let own = subst (λ n. Each (λ change. IfSome change.after (IsRowOf table)) (filter (is_of_table n) changes)) none (stand 0 table refl) in
    let later : (place : ℕ) (other : TableDef) → slice_get tables place ≡ Some other → Each (λ change. IfSome change.after (IsRowOf other)) (filter (is_of_table (number + 1 + place)) changes) =
    λ place other is.
    let same : number + suc place ≡ number + 1 + place = omega arith in
    subst (λ n. Each (λ change. IfSome change.after (IsRowOf other)) (filter (is_of_table n) changes)) same (stand (suc place) other is) in
    (each_with_changes (key_of table) key_order changed_key row_after (IsRowOf table) (filter (is_of_table number) changes) one rows.0 own, stand-from (number + 1) tables changes rest rows.1 later)

pub stand-puts : (db : Db) (changes : List Change) → AreRowsOf db.schema.tables db.rows → Each (IsLawfulPut db) (puts_of changes) → AreRowsOf db.schema.tables (put db changes).rows
stand-puts db changes rows lawful =
    stand-from 0 db.schema.tables changes db.rows rows
    (λ place table is.
    let none : place ≡ 0 + place = omega arith in
    subst (λ n. Each (λ change. IfSome change.after (IsRowOf table)) (filter (is_of_table n) changes)) none (stands-own db place table changes is lawful))

-- the names of puts are those of their changes
names-puts : (changes : List Change) → map (λ (put : Put). put.name) (puts_of changes) ≡ map (λ (change : Change). change.name) changes
names-puts [] = refl
names-puts (change ∷ changes) = ap (λ names. change.name ∷ names) (names-puts changes)

pub rising-puts : (changes : List Change) (puts : List Put) → puts_of changes ≡ puts → IsStrictlySortedBy name_cmp (map (λ put. put.name) puts) → IsStrictlySortedBy name_cmp (map (λ change. change.name) changes)
rising-puts changes puts is rising = subst (IsStrictlySortedBy name_cmp) (names-puts changes) (subst (λ (puts : List Put). IsStrictlySortedBy name_cmp (map (λ put. put.name) puts)) (sym is) rising)
