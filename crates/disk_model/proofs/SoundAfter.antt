-- A lawful commit leaves a sound database sound.
use Rattle.std.proofs.Common.{◌≡◌, ℕ, suc, ◌+◌, List, [], ◌∷◌, ◌++◌, Bool, true, false, cond, fold, length, refl, sym, ap, subst, ◌∙◌, arith}
use Rattle.std.specs.Prelude.{Option, Some, None, IfSome, filter, slice_get}
use Rattle.std.specs.List.{AllByRecursion}
use Rattle.std.proofs.lemmas.Bool.{eqb-true}
use Rattle.std.proofs.lemmas.List.{map-append}
use Rattle.std.proofs.lemmas.List.Sums.{fold-append}
use Rattle.own_base.specs.declared.value.Key.{Key}
use Rattle.own_base.specs.declared.value.Key.TheVariants as keys
use Rattle.own_model.specs.declared.create.CreateTable.{CreateTable as TableCreate}
use Rattle.own_model.specs.declared.create.CreateView.{CreateView as ViewCreate}
use Rattle.own_model.specs.declared.schema.CreateText.{CreateText}
use Rattle.own_model.specs.declared.schema.Schema.{Schema}
use Rattle.own_model.specs.declared.schema.TableDef.{TableDef}
use Rattle.own_model.specs.Db.{AreRising, Db, Row, as_key, empty, key_of}
use Rattle.own_model.specs.Stored.{holds_rows}
use Rattle.own_model.proofs.KeyOrder.{key_order}
use Rattle.page_model.specs.Changed.{AreKeyed}
use Rattle.page_model.proofs.ChangedLemmas.{each_with_changes, rising_with_changes}
use Rattle.schema_model.specs.NewTable.{new_table}
use Rattle.schema_model.specs.Refusal.{refusal_of}
use Rattle.schema_model.specs.WithTable.{with_table}
use Rattle.schema_model.proofs.Places.{all-append}
use Rattle.query_model.specs.BoundView.{view_faults}
use Rattle.query_model.specs.Refused.{lowest}
use Rattle.state_model.specs.Create.{create, create_view, with_view}
use Rattle.state_model.specs.Created.{AreAdmitted, Create, IsAdmitted, IsCreated, IsReadableCreate, OfTable, OfView, text_of, with_create}
use Rattle.state_model.specs.Rows.{AreRowsOf, IsRowOf}
use Rattle.state_model.specs.Sound.{IsWellFormed, Sound}
use Rattle.state_model.proofs.CreatedLemmas.{admitted-without_rows, created-append, created-rows}
use Rattle.state_model.proofs.ForgetSound.{sound-forget}
use Rattle.state_model.proofs.WellFormedLemmas.{rising-append, rows-append}
use Rattle.disk_model.specs.declared.commit.Commit.{Commit}
use Rattle.disk_model.specs.declared.commit.Commit.TheVariants.{CreateTable, CreateView, Changes, Forget}
use Rattle.disk_model.specs.declared.commit.Put.{Put}
use Rattle.disk_model.specs.Follows.{Follows, Puts, after_from, is_of_table, with_puts}
use Rattle.disk_model.specs.Lawful.{IsLawfulPut, IsLawfulState}
use Rattle.disk_model.specs.StoreOf.{AreFollowed}
use Rattle.disk_model.specs.TextOf.{IsTextOf}
use Rattle.disk_model.specs.Value.{as_value}

-- ---- changes

-- a change of a row of this table
abbrev IsPutOf : TableDef → Put → Type 0
IsPutOf table put = IsLawfulState table put.name.key put.after

pub key-of_value : (key : Key) → as_key (as_value key) ≡ key
key-of_value (keys.Int number) = refl
key-of_value (keys.Text text) = refl

keyed_row : (table : TableDef) (key : Key) (state : Option Row) → IsLawfulState table key state → IfSome state (λ row. key_of table row ≡ key)
unfolding key_of
keyed_row table key None is = tt
keyed_row table key (Some row) is = ap as_key is.has_key ∙ key-of_value key

keyed : (table : TableDef) (puts : List Put) → AllByRecursion (IsPutOf table) puts → AreKeyed (key_of table) (λ put. put.name.key) (λ put. put.after) puts
keyed table [] all = tt
keyed table (put ∷ puts) all = (keyed_row table put.name.key put.after all.0, keyed table puts all.1)

standing_row : (table : TableDef) (key : Key) (state : Option Row) → IsLawfulState table key state → IfSome state (IsRowOf table)
standing_row table key None is = tt
standing_row table key (Some row) is = is.may_stand

standing : (table : TableDef) (puts : List Put) → AllByRecursion (IsPutOf table) puts → AllByRecursion (λ put. IfSome put.after (IsRowOf table)) puts
standing table [] all = tt
standing table (put ∷ puts) all = (standing_row table put.name.key put.after all.0, standing table puts all.1)

abbrev done : TableDef → Option TableDef
done table = Some table

some_is : (x y : TableDef) → done x ≡ done y → x ≡ y
some_is x y is = cc

-- the lawful changes of the table of a number
passed : (db : Db) (number : ℕ) (table : TableDef) (put : Put) (rest : List Put) → slice_get db.schema.tables number ≡ Some table → IsLawfulPut db put → AllByRecursion (IsPutOf table) rest
    → (b : Bool) → is_of_table number put ≡ b → AllByRecursion (IsPutOf table) (cond b (put ∷ rest) rest)
passed db number table put rest there lawful all false is = all
passed db number table put rest there lawful all true is =
    let same : put.name.table.0 ≡ number = eqb-true put.name.table.0 number is in
    let one : lawful.table ≡ table = some_is lawful.table table (sym lawful.is_there ∙ ap (slice_get db.schema.tables) same ∙ there) in
    (subst (λ (table : TableDef). IsLawfulState table put.name.key put.after) one lawful.after, all)

of_table : (db : Db) (number : ℕ) (table : TableDef) (puts : List Put) → slice_get db.schema.tables number ≡ Some table → AllByRecursion (IsLawfulPut db) puts
    → AllByRecursion (IsPutOf table) (filter (is_of_table number) puts)
of_table db number table [] there lawful = tt
of_table db number table (put ∷ puts) there lawful =
    passed db number table put (filter (is_of_table number) puts) there lawful.0 (of_table db number table puts there lawful.1) (is_of_table number put) refl

-- the changes of each table from a number on are of it
abbrev ArePutsFrom : ℕ → List TableDef → List Put → Type 0
ArePutsFrom number tables puts = (place : ℕ) (table : TableDef) → slice_get tables place ≡ Some table → AllByRecursion (IsPutOf table) (filter (is_of_table (number + place)) puts)

next : (number place : ℕ) → number + 1 + place ≡ number + suc place
next number place = omega arith

same : (number : ℕ) → number + 0 ≡ number
same number = omega arith

from_none : (place : ℕ) → 0 + place ≡ place
from_none place = omega arith

first_puts : (number : ℕ) (table : TableDef) (tables : List TableDef) (puts : List Put) → ArePutsFrom number (table ∷ tables) puts → AllByRecursion (IsPutOf table) (filter (is_of_table number) puts)
first_puts number table tables puts are = subst (λ n. AllByRecursion (IsPutOf table) (filter (is_of_table n) puts)) (same number) (are 0 table refl)

other_puts : (number : ℕ) (table : TableDef) (tables : List TableDef) (puts : List Put) → ArePutsFrom number (table ∷ tables) puts → ArePutsFrom (number + 1) tables puts
other_puts number table tables puts are place other is =
    subst (λ n. AllByRecursion (IsPutOf other) (filter (is_of_table n) puts)) (sym (next number place)) (are (suc place) other is)

rising_after : (number : ℕ) (tables : List TableDef) (puts : List Put) (rows : List (List Row)) → ArePutsFrom number tables puts → AreRising tables rows → AreRising tables (after_from number tables puts rows)
unfolding after_from
rising_after number [] puts [] are rising = tt
rising_after number [] puts (one ∷ rows) are rising = absurd rising
rising_after number (table ∷ tables) puts [] are rising = absurd rising
rising_after number (table ∷ tables) puts (one ∷ rows) are rising =
    let own = keyed table (filter (is_of_table number) puts) (first_puts number table tables puts are) in (
      rising_with_changes (key_of table) key_order (λ put. put.name.key) (λ put. put.after) (filter (is_of_table number) puts) one own rising.0,
      rising_after (number + 1) tables puts rows (other_puts number table tables puts are) rising.1,
    )

rows_stand : (number : ℕ) (tables : List TableDef) (puts : List Put) (rows : List (List Row)) → ArePutsFrom number tables puts → AreRowsOf tables rows → AreRowsOf tables (after_from number tables puts rows)
unfolding after_from
rows_stand number [] puts [] are rows = tt
rows_stand number [] puts (one ∷ rest) are rows = absurd rows
rows_stand number (table ∷ tables) puts [] are rows = absurd rows
rows_stand number (table ∷ tables) puts (one ∷ rest) are rows =
    let own = standing table (filter (is_of_table number) puts) (first_puts number table tables puts are) in (
      each_with_changes (key_of table) key_order (λ put. put.name.key) (λ put. put.after) (IsRowOf table) (filter (is_of_table number) puts) one rows.0 own,
      rows_stand (number + 1) tables puts rest (other_puts number table tables puts are) rows.1,
    )

pub sound-puts : (db : Db) (puts : List Put) (after : Db) → Sound db → Puts db puts after → Sound after
sound-puts db puts after sound made =
    let are : ArePutsFrom 0 db.schema.tables puts = λ place table is. subst (λ n. AllByRecursion (IsPutOf table) (filter (is_of_table n) puts)) (sym (from_none place)) (of_table db place table puts is made.lawful) in
    let left : IsWellFormed (with_puts db puts) = record {
      created = created-rows db (after_from 0 db.schema.tables puts db.rows) sound.well_formed.created;
      ordered = record { rising = rising_after 0 db.schema.tables puts db.rows are sound.well_formed.ordered.rising };
      rows = rows_stand 0 db.schema.tables puts db.rows are sound.well_formed.rows;
    } in
    record { well_formed = subst IsWellFormed (sym made.after_is) left; faultless = made.faultless }

-- ---- creates

-- the grammar gives a CREATE for its text
readable-text : (create : Create) (text : CreateText) → IsTextOf create text → IsReadableCreate create
readable-text create text is =
    let few = is.few in
    let same = ap (λ (text : CreateText). length text.text) is.canonical in
    record {
      written = record { text = text.text; short = omega arith; utf8 = is.utf8; terminals = is.read.terminals; cut = is.read.cut; spells = is.read.answers.0 };
      short = omega arith;
    }

kept-create : (db : Db) (table : TableCreate) → IsWellFormed db → IsReadableCreate (OfTable table) → refusal_of db.schema (holds_rows db.rows) table ≡ None → IsWellFormed (create db table)
unfolding create with_table
kept-create db table kept readable admitted = record {
  created = created-append db _ (OfTable table) kept.created readable (admitted-without_rows db.schema _ table admitted) refl refl;
  ordered = record { rising = rising-append db.schema.tables db.rows (new_table db.schema table) kept.ordered.rising };
  rows = rows-append db.schema.tables db.rows (new_table db.schema table) kept.rows;
}

kept-create_view : (db : Db) (view : ViewCreate) → IsWellFormed db → IsReadableCreate (OfView view) → lowest (view_faults db.schema view) ≡ None → IsWellFormed (create_view db view)
unfolding create_view with_view
kept-create_view db view kept readable admitted = record {
  created = created-append db _ (OfView view) kept.created readable admitted refl refl;
  ordered = record { rising = kept.ordered.rising };
  rows = kept.rows;
}

-- a commit
pub sound-after : (db : Db) (commit : Commit) (after : Db) → Sound db → Follows db commit after → Sound after
sound-after db (CreateTable text) after sound follows = record {
  well_formed = subst IsWellFormed (sym follows.after_is) (kept-create db follows.table sound.well_formed (readable-text (OfTable follows.table) _ follows.text_of) follows.admitted);
  faultless = follows.faultless;
}
sound-after db (CreateView text) after sound follows = record {
  well_formed = subst IsWellFormed (sym follows.after_is) (kept-create_view db follows.view sound.well_formed (readable-text (OfView follows.view) _ follows.text_of) follows.admitted);
  faultless = follows.faultless;
}
sound-after db (Changes puts) after sound follows = sound-puts db puts after sound follows
sound-after db (Forget name) after sound follows = subst Sound (sym follows.after_is) (sound-forget db name follows.lawful.subject sound)

-- and commits
pub sound-followed : (db : Db) (commits : List Commit) (after : Db) → Sound db → AreFollowed db commits after → Sound after
sound-followed db [] after sound followed = subst Sound (sym followed) sound
sound-followed db (commit ∷ commits) after sound followed = sound-followed followed.0 commits after (sound-after db commit followed.0 sound followed.1) followed.2
