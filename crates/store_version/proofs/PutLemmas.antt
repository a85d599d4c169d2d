-- A database into which changes are put that tell what stood there.
use Rattle.std.proofs.Common.{◌≡◌, ◌∙◌, ℕ, ◌+◌, suc, List, [], ◌∷◌, Bool, true, false, cond, Option, Some, refl, sym, ap, subst, arith, eq-eqb}
use Rattle.std.specs.Prelude.{◌&&◌, ◌==◌, filter, slice_get}
use Rattle.std.specs.List.{AllByRecursion as Each, IsDistinct, list_any}
use Rattle.std.specs.Ordering.{is_eq}
use Rattle.std.specs.declared.cmp.Ordering.{Ordering}
use Rattle.std.specs.declared.cmp.Ordering.TheVariants.{Less, Equal, Greater}
use Rattle.std.proofs.lemmas.Bool.{or_parts}
use Rattle.std.proofs.lemmas.Cmp.{tied_back, tied_itself}
use Rattle.own_base.specs.Key.{key_cmp}
use Rattle.own_base.specs.declared.change.Change.{Change}
use Rattle.own_base.specs.declared.row_name.RowName.{RowName}
use Rattle.own_base.specs.declared.value.Key.{Key}
use Rattle.own_model.specs.declared.schema.TableDef.{TableDef}
use Rattle.own_model.specs.Db.{AreRising, Db, IsOrdered, Row, key_of}
use Rattle.own_model.specs.Stored.{is_equal}
use Rattle.own_model.proofs.KeyOrder.{key_order}
use Rattle.owner_model.specs.Joins.{row_of}
use Rattle.page_model.specs.Changed.{AreKeyed}
use Rattle.page_model.proofs.ChangedLemmas.{rising_with_changes}
use Rattle.page_model.proofs.RisingLemmas.{each_map}
use Rattle.subject_model.specs.Named.{is_name}
use Rattle.state_model.specs.ChangeOf.{TellsRows}
use Rattle.state_model.specs.LeadTo.{LeadTo}
use Rattle.state_model.specs.MayBePut.{KeysDiffer, MayBePut}
use Rattle.state_model.specs.Put.{changed_key, is_of_table, put, put_from, row_after}
use Rattle.state_model.proofs.PutRows.{equal_is}
use Rattle.table_part.proofs.KeyLemmas.{changes_keyed}
use Rattle.ref_index.specs.AfterChanges.{after_change, after_changes}
use Rattle.ref_index.specs.IndexOf.{rows_under}
use Rattle.ref_index.specs.Tells.{Tell}
use Rattle.ref_index.proofs.PutUnder.{under_put}

-- the keys of each table rise still
rising_put : (number : ℕ) (tables : List TableDef) (rows : List (List Row)) (changes : List Change) → AreRising tables rows
    → ((place : ℕ) (table : TableDef) → slice_get tables place ≡ Some table → AreKeyed (key_of table) changed_key row_after (filter (is_of_table (number + place)) changes))
    → AreRising tables (put_from number tables changes rows)
unfolding put_from
rising_put number [] [] changes rising keyed = tt
rising_put number [] (one ∷ rows) changes rising keyed = absurd rising
rising_put number (table ∷ tables) [] changes rising keyed = absurd rising
rising_put number (table ∷ tables) (one ∷ rows) changes rising keyed =
    let none : number + 0 ≡ number = omega arith in
    let own = subst (λ n. AreKeyed (key_of table) changed_key row_after (filter (is_of_table n) changes)) none (keyed 0 table refl) in
    let later : (place : ℕ) (other : TableDef) → slice_get tables place ≡ Some other → AreKeyed (key_of other) changed_key row_after (filter (is_of_table (number + 1 + place)) changes) =
    λ place other is.
    let same : number + suc place ≡ number + 1 + place = omega arith in
    subst (λ n. AreKeyed (key_of other) changed_key row_after (filter (is_of_table n) changes)) same (keyed (suc place) other is) in
    (rising_with_changes (key_of table) key_order changed_key row_after (filter (is_of_table number) changes) one own rising.0, rising_put (number + 1) tables rows changes rising.1 later)

pub ordered-put : (db : Db) (changes : List Change) → IsOrdered db → MayBePut db.schema.tables changes → IsOrdered (put db changes)
ordered-put db changes ordered may =
    let keyed : (place : ℕ) (table : TableDef) → slice_get db.schema.tables place ≡ Some table → AreKeyed (key_of table) changed_key row_after (filter (is_of_table (0 + place)) changes) =
    λ place table is.
    let none : place ≡ 0 + place = omega arith in
    subst (λ n. AreKeyed (key_of table) changed_key row_after (filter (is_of_table n) changes)) none (changes_keyed db.schema.tables place table changes is may.theirs) in
    record { rising = rising_put 0 db.schema.tables db.rows changes ordered.rising keyed }

-- keys that differ do so from either side
apart_back : (one other : Key) → is_eq (key_cmp one other) ≡ false → is_eq (key_cmp other one) ≡ false
apart_back one other apart = by (key_cmp other one) refl
  where
    by : (o : Ordering) → key_cmp other one ≡ o → is_eq (key_cmp other one) ≡ false
    by Less is = ap is_eq is
    by Equal is =
        let never : true ≡ false = sym (ap is_eq (tied_back key_order other one is)) ∙ apart in absurd (cc)
    by Greater is = ap is_eq is

-- a name that no change has keeps its row
unnamed : (changes : List Change) (rows : Key → Option Row) (name : RowName) → list_any (λ change. is_name change.name name) changes ≡ false
    → after_changes name.table.0 changes rows name.key ≡ rows name.key
unfolding after_changes
unnamed [] rows name none = refl
unnamed (change ∷ changes) rows name none =
    let both = or_parts (is_name change.name name) (list_any (λ change. is_name change.name name) changes) none in
    unnamed changes (after_change name.table.0 change rows) name both.1
    ∙ (ap (λ b. cond ((change.name.table.0 == name.table.0) && b) change.after (rows name.key)) (equal_is (key_cmp change.name.key name.key))
    ∙ ap (λ b. cond b change.after (rows name.key)) both.0)

-- those behind a change of other keys don't have its name
no_later : (change : Change) (changes : List Change) → Each (λ other. is_eq (key_cmp change.name.key other.name.key) ≡ false) (filter (is_of_table change.name.table.0) changes)
    → list_any (λ other. is_name other.name change.name) changes ≡ false
no_later change [] apart = refl
no_later change (other ∷ changes) apart = by (no_later change changes) (is_of_table change.name.table.0 other) refl apart
  where
    by : (Each (λ other. is_eq (key_cmp change.name.key other.name.key) ≡ false) (filter (is_of_table change.name.table.0) changes) → list_any (λ other. is_name other.name change.name) changes ≡ false)
        → (b : Bool) → is_of_table change.name.table.0 other ≡ b
        → Each (λ other. is_eq (key_cmp change.name.key other.name.key) ≡ false) (cond b (other ∷ filter (is_of_table change.name.table.0) changes) (filter (is_of_table change.name.table.0) changes))
        → list_any (λ other. is_name other.name change.name) (other ∷ changes) ≡ false
    by more true of apart =
        let differ : is_equal (key_cmp other.name.key change.name.key) ≡ false = sym (equal_is (key_cmp other.name.key change.name.key)) ∙ apart_back change.name.key other.name.key apart.0 in
        rw (of, differ) (more apart.1)
    by more false of apart = rw of (more apart)

-- keys that differ do so without the first
differ_later : (number : ℕ) (change : Change) (changes : List Change) → KeysDiffer (filter (is_of_table number) (change ∷ changes)) → KeysDiffer (filter (is_of_table number) changes)
unfolding IsDistinct
differ_later number change changes = by (is_of_table number change)
  where
    by : (b : Bool) → KeysDiffer (cond b (change ∷ filter (is_of_table number) changes) (filter (is_of_table number) changes)) → KeysDiffer (filter (is_of_table number) changes)
    by true differ = differ.1
    by false differ = differ

-- and the first one's key differs from those behind it, of its table
differ_first : (change : Change) (changes : List Change) → KeysDiffer (filter (is_of_table change.name.table.0) (change ∷ changes))
    → Each (λ other. is_eq (key_cmp change.name.key other.name.key) ≡ false) (filter (is_of_table change.name.table.0) changes)
unfolding IsDistinct
differ_first change changes differ =
    let own : KeysDiffer (change ∷ filter (is_of_table change.name.table.0) changes) =
    subst (λ b. KeysDiffer (cond b (change ∷ filter (is_of_table change.name.table.0) changes) (filter (is_of_table change.name.table.0) changes)))
    (eq-eqb change.name.table.0 change.name.table.0 refl) differ in
    each_map _ changed_key (filter (is_of_table change.name.table.0) changes) own.0

-- under the name of each change stands afterwards what it puts there
told : (changes : List Change) (rows : ℕ → Key → Option Row) → ((number : ℕ) → KeysDiffer (filter (is_of_table number) changes))
    → Each (λ change. change.after ≡ after_changes change.name.table.0 changes (rows change.name.table.0) change.name.key) changes
unfolding after_changes
told [] rows once = tt
told (change ∷ changes) rows once =
    let here : after_change change.name.table.0 change (rows change.name.table.0) change.name.key ≡ change.after =
    ap (λ b. cond (b && is_eq (key_cmp change.name.key change.name.key)) change.after (rows change.name.table.0 change.name.key)) (eq-eqb change.name.table.0 change.name.table.0 refl)
    ∙ ap (λ b. cond (true && b) change.after (rows change.name.table.0 change.name.key)) (itself change.name.key) in
    let later = unnamed changes (after_change change.name.table.0 change (rows change.name.table.0)) change.name (no_later change changes (differ_first change changes (once change.name.table.0))) in
    (sym (later ∙ here), told changes (λ number. after_change number change (rows number)) (λ number. differ_later number change changes (once number)))
  where
    itself : (key : Key) → is_eq (key_cmp key key) ≡ true
    itself key = ap is_eq (tied_itself key_order key)

both : (db : Db) (changes : List Change) (after : Db) (list : List Change) → ((number : ℕ) → after_changes number changes (rows_under db number) ≡ rows_under after number)
    → Each (λ change. change.before ≡ row_of db change.name) list
    → Each (λ change. change.after ≡ after_changes change.name.table.0 changes (rows_under db change.name.table.0) change.name.key) list
    → Each (TellsRows db after) list
both db changes after [] under was is = tt
both db changes after (change ∷ list) under was is =
    (record { was = was.0; is = is.0 ∙ ap (λ (rows : Key → Option Row). rows change.name.key) (under change.name.table.0) }, both db changes after list under was.1 is.1)

-- So changes that tell a database lead to the one into which they are put.
pub tell_leads : (db : Db) (changes : List Change) → IsOrdered db → Tell db changes → LeadTo db (put db changes) changes
tell_leads db changes ordered tell =
    let under = under_put db changes ordered tell.may in
    record {
      each = both db changes (put db changes) changes under tell.was (told changes (rows_under db) tell.may.once);
      once = tell.may.once;
      others = λ name none. sym (unnamed changes (rows_under db name.table.0) name none) ∙ ap (λ (rows : Key → Option Row). rows name.key) (under name.table.0);
    }
