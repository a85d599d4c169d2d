-- The rows of a database into which changes are put, each under its key.
use Rattle.std.proofs.Common.{◌≡◌, refl, sym, ◌∙◌, ap, subst, ℕ, zero, suc, ◌+◌, List, [], ◌∷◌, Option, Some, None, arith}
use Rattle.std.specs.Prelude.{Bool, true, false, cond, ◌&&◌, filter, slice_get}
use Rattle.std.specs.List.{AllByRecursion as Each, IsDistinct}
use Rattle.std.specs.Ordering.{is_eq}
use Rattle.std.proofs.lemmas.Bool.{eqb-true}
use Rattle.own_base.specs.Key.{key_cmp}
use Rattle.own_base.specs.declared.change.Change.{Change}
use Rattle.own_base.specs.declared.value.Key.{Key}
use Rattle.own_model.specs.declared.schema.TableDef.{TableDef}
use Rattle.own_model.specs.Db.{AreRising, Db, IsOrdered, Row, key_of}
use Rattle.own_model.specs.Stored.{row_named, rows_at}
use Rattle.own_model.proofs.KeyOrder.{key_order}
use Rattle.page_model.specs.Changed.{AreKeyed, with_change, with_changes}
use Rattle.page_model.specs.Found.{found}
use Rattle.page_model.proofs.FoundChanged.{found_changed}
use Rattle.page_model.proofs.RisingLemmas.{each_map}
use Rattle.state_model.specs.MayBePut.{IsPutIn, KeysDiffer, MayBePut}
use Rattle.state_model.specs.Put.{changed_key, is_of_table, put, put_from, put_rows, row_after, rows_put}
use Rattle.state_model.proofs.PutRows.{named_in}
use Rattle.table_part.proofs.KeyLemmas.{changes_keyed}
use Rattle.ref_index.specs.AfterChanges.{after_change, after_changes, Fit}
use Rattle.ref_index.specs.IndexOf.{rows_under}

-- what is the same under each key is the same
pub alike : {X Y : Type 0} (f g : X → Y) → ((x : X) → f x ≡ g x) → f ≡ g
alike f g same = λ i x. same x i

-- a change of another table leaves the rows
pub left_alone : (n : ℕ) (change : Change) (rows : Key → Option Row) → is_of_table n change ≡ false → after_change n change rows ≡ rows
left_alone n change rows other = alike _ _ (λ key. ap (λ b. cond (b && is_eq (key_cmp change.name.key key)) change.after (rows key)) other)

module _ (n : ℕ) (table : TableDef) where
  -- the rows of a table, each under its key
  abbrev under : List Row → Key → Option Row
  under rows key = found (key_of table) key_cmp key rows

  under_change : (change : Change) (rows : List Row) → is_of_table n change ≡ true → AreKeyed (key_of table) changed_key row_after (change ∷ [])
      → after_change n change (under rows) ≡ under (with_change (key_of table) key_cmp (changed_key change) (row_after change) rows)
  under_change change rows of keyed =
      alike _ _
      (λ key. ap (λ b. cond (b && is_eq (key_cmp change.name.key key)) change.after (under rows key)) of
      ∙ sym (found_changed (key_of table) key_order changed_key row_after key (changed_key change) (row_after change) rows keyed.0))

  -- changes of the rows are changes of what stands under their keys
  pub under_changes : (changes : List Change) (rows : List Row) → AreKeyed (key_of table) changed_key row_after (filter (is_of_table n) changes) → after_changes n changes (under rows) ≡ under (rows_put n table changes rows)
  unfolding after_changes with_changes
  under_changes [] rows keyed = refl
  under_changes (change ∷ changes) rows keyed = by (under_changes changes) (is_of_table n change) refl keyed
    where
      by : ((xs : List Row) → AreKeyed (key_of table) changed_key row_after (filter (is_of_table n) changes) → after_changes n changes (under xs) ≡ under (with_changes (key_of table) key_cmp changed_key row_after (filter (is_of_table n) changes) xs))
          → (b : Bool) → is_of_table n change ≡ b → AreKeyed (key_of table) changed_key row_after (cond b (change ∷ filter (is_of_table n) changes) (filter (is_of_table n) changes))
          → after_changes n changes (after_change n change (under rows)) ≡ under (with_changes (key_of table) key_cmp changed_key row_after (cond b (change ∷ filter (is_of_table n) changes) (filter (is_of_table n) changes)) rows)
      by more true of keyed = ap (after_changes n changes) (under_change change rows of (keyed.0, tt)) ∙ more (with_change (key_of table) key_cmp (changed_key change) (row_after change) rows) keyed.1
      by more false other keyed = ap (after_changes n changes) (left_alone n change (under rows) other) ∙ more rows keyed

-- the rows of the table of a number afterwards
put_at : (number : ℕ) (tables : List TableDef) (rows : List (List Row)) (changes : List Change) (place : ℕ) (table : TableDef) → AreRising tables rows → slice_get tables place ≡ Some table
    → rows_at (put_from number tables changes rows) place ≡ rows_put (number + place) table changes (rows_at rows place)
unfolding put_from
put_at number [] rows changes place table rising at = let never : ◌≡◌ {A = Option TableDef} None (Some table) = at in cc
put_at number (first ∷ tables) [] changes place table rising at = absurd rising
put_at number (first ∷ tables) (one ∷ rows) changes zero table rising at =
    let this : first ≡ table = cc in
    let same : number ≡ number + 0 = omega arith in
    ap (λ definition. rows_put number definition changes one) this ∙ ap (λ n. rows_put n table changes one) same
put_at number (first ∷ tables) (one ∷ rows) changes (suc place) table rising at =
    let same : number + 1 + place ≡ number + suc place = omega arith in
    put_at (number + 1) tables rows changes place table rising.1 at ∙ ap (λ n. rows_put n table changes (rows_at rows place)) same

-- no change is of a table that isn't there
not_there : (tables : List TableDef) (n : ℕ) (change : Change) → slice_get tables n ≡ None → IsPutIn tables change → (b : Bool) → is_of_table n change ≡ b → is_of_table n change ≡ false
not_there tables n change none is true of = absurd (let at : slice_get tables change.name.table.0 ≡ None = ap (slice_get tables) (eqb-true change.name.table.0 n of) ∙ none in rw at at is)
not_there tables n change none is false other = other

all_left_alone : (tables : List TableDef) (n : ℕ) (changes : List Change) (rows : Key → Option Row) → slice_get tables n ≡ None → Each (IsPutIn tables) changes → after_changes n changes rows ≡ rows
unfolding after_changes
all_left_alone tables n [] rows none all = refl
all_left_alone tables n (change ∷ changes) rows none all =
    ap (after_changes n changes) (left_alone n change rows (not_there tables n change none all.0 (is_of_table n change) refl)) ∙ all_left_alone tables n changes rows none all.1

module _ (db : Db) (changes : List Change) (ordered : IsOrdered db) (may : MayBePut db.schema.tables changes) where
  -- what stands under the keys of a table afterwards
  pub under_put : (n : ℕ) → after_changes n changes (rows_under db n) ≡ rows_under (put db changes) n
  unfolding row_named
  under_put n = by (slice_get db.schema.tables n) refl
    where
      by : (o : Option TableDef) → slice_get db.schema.tables n ≡ o → after_changes n changes (rows_under db n) ≡ rows_under (put db changes) n
      by None none =
          all_left_alone db.schema.tables n changes (rows_under db n) none may.theirs
          ∙ alike _ _ (λ key. rw none refl)
      by (Some table) at =
          let keyed = changes_keyed db.schema.tables n table changes at may.theirs in
          let before : rows_under db n ≡ under n table (rows_at db.rows n) = alike _ _ (λ key. named_in db.schema db.rows (record { table = record { 0 = n }; key = key }) table at) in
          let after : rows_under (put db changes) n ≡ under n table (rows_at (put_rows db.schema.tables changes db.rows) n) =
          alike _ _ (λ key. named_in db.schema (put_rows db.schema.tables changes db.rows) (record { table = record { 0 = n }; key = key }) table at) in
          let none : 0 + n ≡ n = omega arith in
          let rows : rows_at (put_rows db.schema.tables changes db.rows) n ≡ rows_put n table changes (rows_at db.rows n) =
          put_at 0 db.schema.tables db.rows changes n table ordered.rising at ∙ ap (λ m. rows_put m table changes (rows_at db.rows n)) none in
          ap (after_changes n changes) before ∙ (under_changes n table changes (rows_at db.rows n) keyed ∙ (ap (under n table) (sym rows) ∙ sym after))

-- what holds of those that pass holds of each that does
each_passing : {X : Type 0} (P : X → Type 0) (q : X → Bool) (xs : List X) → Each P (filter q xs) → Each (λ x. q x ≡ true → P x) xs
each_passing P q [] all = tt
each_passing P q (x ∷ xs) all = by (each_passing P q xs) (q x) refl all
  where
    by : (Each P (filter q xs) → Each (λ x. q x ≡ true → P x) xs) → (b : Bool) → q x ≡ b → Each P (cond b (x ∷ filter q xs) (filter q xs)) → (q x ≡ true → P x) × Each (λ x. q x ≡ true → P x) xs
    by more true is all = ((λ _. all.0), more all.1)
    by more false is all = ((λ passes. absurd (let never : true ≡ false = sym passes ∙ is in cc)), more all)

each_both : {X : Type 0} (P Q R : X → Type 0) → ((x : X) → P x → Q x → R x) → (xs : List X) → Each P xs → Each Q xs → Each R xs
each_both P Q R f [] all also = tt
each_both P Q R f (x ∷ xs) all also = (f x all.0 also.0, each_both P Q R f xs all.1 also.1)

-- a change of one key leaves what stands under the others
other_key : (n : ℕ) (change other : Change) (rows : Key → Option Row) → is_of_table n change ≡ true → is_eq (key_cmp change.name.key other.name.key) ≡ false → other.before ≡ rows other.name.key
    → other.before ≡ after_change n change rows other.name.key
other_key n change other rows of apart is =
    is
    ∙ sym (ap (λ b. cond (b && is_eq (key_cmp change.name.key other.name.key)) change.after (rows other.name.key)) of
    ∙ ap (λ b. cond (true && b) change.after (rows other.name.key)) apart)

-- Changes of keys that differ fit where each tells what stands under its key at first.
pub fits : (n : ℕ) (changes : List Change) (rows : Key → Option Row) → Each (λ change. is_of_table n change ≡ true → change.before ≡ rows change.name.key) changes → KeysDiffer (filter (is_of_table n) changes) → Fit n changes rows
unfolding Fit IsDistinct
fits n [] rows tells differ = tt
fits n (change ∷ changes) rows tells differ = (tells.0, by (fits n changes) (is_of_table n change) refl differ)
  where
    by : ((others : Key → Option Row) → Each (λ change. is_of_table n change ≡ true → change.before ≡ others change.name.key) changes → KeysDiffer (filter (is_of_table n) changes) → Fit n changes others)
        → (b : Bool) → is_of_table n change ≡ b → KeysDiffer (cond b (change ∷ filter (is_of_table n) changes) (filter (is_of_table n) changes)) → Fit n changes (after_change n change rows)
    by more true of differ =
        let apart = each_passing (λ other. is_eq (key_cmp change.name.key other.name.key) ≡ false) (is_of_table n) changes (each_map _ changed_key (filter (is_of_table n) changes) differ.0) in
        more (after_change n change rows) (each_both _ _ _ (λ other tell differs theirs. other_key n change other rows of (differs theirs) (tell theirs)) changes tells.1 apart) differ.1
    by more false other differ = subst (Fit n changes) (sym (left_alone n change rows other)) (more rows tells.1 differ)
