-- Changes that lead from one database to another fit one after another, and give the other's rows.
use Rattle.std.proofs.Common.{◌≡◌, ℕ, zero, suc, ◌+◌, refl, sym, ◌∙◌, ap, subst, List, [], ◌∷◌, ◌++◌, map, append_assoc, eqb, Option, Some, None, arith}
use Rattle.std.specs.Prelude.{Bool, true, false, cond, IfSome, filter, slice_get}
use Rattle.std.specs.List.{AllByRecursion as Each, IsDistinct}
use Rattle.std.specs.Ordering.{is_eq, is_gt, is_lt}
use Rattle.std.specs.declared.cmp.Ordering.TheVariants.{Less}
use Rattle.std.proofs.lemmas.Bool.{eqb-true}
use Rattle.std.proofs.lemmas.Bool.Decides.{nat_tests}
use Rattle.std.proofs.lemmas.List.{append-nil}
use Rattle.own_base.specs.Key.{key_cmp}
use Rattle.own_base.specs.declared.change.Change.{Change}
use Rattle.own_base.specs.declared.number.TableNo.{TableNo}
use Rattle.own_model.specs.declared.schema.Schema.{Schema}
use Rattle.own_model.specs.declared.schema.TableDef.{TableDef}
use Rattle.own_model.specs.Db.{AreRising, Db, IsOrdered, Row, key_of}
use Rattle.own_model.specs.Stored.{rows_at}
use Rattle.page_model.specs.Changed.{above_key, below_key, with_change, with_changes}
use Rattle.page_model.specs.Found.{found}
use Rattle.page_model.specs.Rising.{IsRising}
use Rattle.page_model.proofs.ChangedLemmas.{filter_all, filter_none}
use Rattle.page_model.proofs.RisingLemmas.{each_map, each_weaker, rising_before, rising_front}
use Rattle.query_model.specs.Stored.{IsStoredRow}
use Rattle.state_model.specs.ChangeOf.{TellsRows}
use Rattle.state_model.specs.LeadTo.{LeadTo}
use Rattle.state_model.specs.MayBePut.{KeysDiffer}
use Rattle.state_model.specs.Put.{changed_key, is_of_table, put_from, row_after, rows_put}
use Rattle.state_model.proofs.PutLeads.{put_leads}
use Rattle.state_model.proofs.PutRows.{named_in, rising_at}
use Rattle.view_deltas.specs.Changes.{after_change, after_changes, AllFit}
use Rattle.view_deltas.specs.Inserted.{inserted}
use Rattle.view_deltas.specs.TableRows.{AreRows, changed, Fits, row_at, StandsUnder}
use Rattle.view_deltas.specs.ViewOf.{HoldNoSums}
use Rattle.view_deltas.proofs.ChangeLemmas.{found_stands, row_changed, rows_after}

-- the rows of a table of a database
pub stored_at : (rows : List (List Row)) (place : ℕ) → HoldNoSums rows → Each IsStoredRow (rows_at rows place)
stored_at [] place all = tt
stored_at (first ∷ rest) zero all = all.0
stored_at (first ∷ rest) (suc place) all = stored_at rest place all.1

pub rows_of_table : (db : Db) (number : ℕ) (table : TableDef) → IsOrdered db → HoldNoSums db.rows → slice_get db.schema.tables number ≡ Some table → AreRows table (rows_at db.rows number)
rows_of_table db number table ordered stored at = record { rise = rising_at db.schema.tables db.rows number table ordered.rising at; stored = stored_at db.rows number stored }

-- what holds of those that pass holds of each that does
each_passing : {X : Type 0} (P : X → Type 0) (q : X → Bool) (xs : List X) → Each P (filter q xs) → Each (λ x. q x ≡ true → P x) xs
each_passing P q [] all = tt
each_passing P q (x ∷ xs) all = by (each_passing P q xs) (q x) refl all
  where
    by : (Each P (filter q xs) → Each (λ x. q x ≡ true → P x) xs) → (b : Bool) → q x ≡ b → Each P (cond b (x ∷ filter q xs) (filter q xs)) → (q x ≡ true → P x) × Each (λ x. q x ≡ true → P x) xs
    by more true is all = ((λ _. all.0), more all.1)
    by more false is all = ((λ passes. absurd (let never : true ≡ false = sym passes ∙ is in cc)), more all)

each_both : {X : Type 0} (P Q R : X → Type 0) → ((x : X) → P x → Q x → R x) → (xs : List X) → Each P xs → Each Q xs → Each R xs
each_both P Q R f [] all also = tt
each_both P Q R f (x ∷ xs) all also = (f x all.0 also.0, each_both P Q R f xs all.1 also.1)

module _ (number : ℕ) (table : TableDef) where
  -- what a change of the table tells
  abbrev Tells : List Row → Change → Type 0
  Tells rows change = is_of_table number change ≡ true → Fits table rows change.name.key change.before change.after

  -- changes of keys that differ fit one after another where each fits at first
  pub all_fit : (changes : List Change) (rows : List Row) → Each (Tells rows) changes → KeysDiffer (filter (is_of_table number) changes) → AllFit number table changes rows
  unfolding AllFit IsDistinct
  all_fit [] rows tells differ = tt
  all_fit (change ∷ changes) rows tells differ = (tells.0, by (all_fit changes) (is_of_table number change) refl differ)
    where
      still : is_of_table number change ≡ true → (other : Change) → (is_of_table number other ≡ true → is_eq (key_cmp change.name.key other.name.key) ≡ false) → Tells rows other
          → Tells (changed table change.name.key change.after rows) other
      still of other apart tell theirs = record {
        was = (tell theirs).was
            ∙ sym (row_changed table change.name.key change.before change.after rows (tells.0 of) other.name.key ∙ ap (λ b. cond b change.after (row_at table rows other.name.key)) (apart theirs));
        may = (tell theirs).may;
      }

      by : ((others : List Row) → Each (Tells others) changes → KeysDiffer (filter (is_of_table number) changes) → AllFit number table changes others)
          → (b : Bool) → is_of_table number change ≡ b → KeysDiffer (cond b (change ∷ filter (is_of_table number) changes) (filter (is_of_table number) changes))
          → AllFit number table changes (cond b (changed table change.name.key change.after rows) rows)
      by more true of differ =
          let apart = each_passing (λ other. is_eq (key_cmp change.name.key other.name.key) ≡ false) (is_of_table number) changes (each_map _ changed_key (filter (is_of_table number) changes) differ.0) in
          more (changed table change.name.key change.after rows) (each_both _ _ _ (still of) changes apart tells.1) differ.1
      by more false other differ = more rows tells.1 differ

  -- the rows after changes are those into which they are put
  pub changes_put : (changes : List Change) (rows : List Row) → after_changes number table changes rows ≡ rows_put number table changes rows
  unfolding after_changes with_changes
  changes_put [] rows = refl
  changes_put (change ∷ changes) rows = by (changes_put changes) (is_of_table number change)
    where
      by : ((others : List Row) → after_changes number table changes others ≡ rows_put number table changes others) → (b : Bool)
          → after_changes number table changes (cond b (changed table change.name.key change.after rows) rows)
          ≡ with_changes (key_of table) key_cmp changed_key row_after (cond b (change ∷ filter (is_of_table number) changes) (filter (is_of_table number) changes)) rows
      by more true = more (changed table change.name.key change.after rows)
      by more false = more rows

  -- and stand by key
  pub rows_after_all : (changes : List Change) (rows : List Row) → AreRows table rows → AllFit number table changes rows → AreRows table (after_changes number table changes rows)
  unfolding after_changes AllFit
  rows_after_all [] rows are fit = are
  rows_after_all (change ∷ changes) rows are fit = rows_after_all changes (after_change number table change rows) (rows_after number table change rows are fit.0) fit.1

-- the rows of the table of a number, among those into which changes are put
put_at : (number : ℕ) (tables : List TableDef) (rows : List (List Row)) (changes : List Change) (place : ℕ) (table : TableDef) → AreRising tables rows → slice_get tables place ≡ Some table
    → rows_at (put_from number tables changes rows) place ≡ rows_put (number + place) table changes (rows_at rows place)
unfolding put_from
put_at number [] rows changes place table rising at = let never : ◌≡◌ {A = Option TableDef} None (Some table) = at in cc
put_at number (first ∷ tables) [] changes place table rising at = absurd rising
put_at number (first ∷ tables) (one ∷ rows) changes zero table rising at =
    let this : first ≡ table = cc in
    let same : number ≡ number + 0 = omega arith in
    ap (λ definition. rows_put number definition changes one) this ∙ ap (λ n. rows_put n table changes one) same
put_at number (first ∷ tables) (one ∷ rows) changes (suc place) table rising at =
    let same : number + 1 + place ≡ number + suc place = omega arith in
    put_at (number + 1) tables rows changes place table rising.1 at ∙ ap (λ n. rows_put n table changes (rows_at rows place)) same

module _ (before after : Db) (changes : List Change) (ordered : IsOrdered before) (rises : IsOrdered after) (schema : after.schema ≡ before.schema) (stored : HoldNoSums after.rows)
    (lead : LeadTo before after changes) (number : ℕ) (table : TableDef) (at : slice_get before.schema.tables number ≡ Some table) where
  at_after : slice_get after.schema.tables number ≡ Some table
  at_after = ap (λ (all : Schema). slice_get all.tables number) schema ∙ at

  tells : (change : Change) → TellsRows before after change → Tells number table (rows_at before.rows number) change
  tells change told of =
      let is_number : change.name.table.0 ≡ number = eqb-true change.name.table.0 number of in
      let own : slice_get before.schema.tables change.name.table.0 ≡ Some table = ap (slice_get before.schema.tables) is_number ∙ at in
      let own_after : slice_get after.schema.tables change.name.table.0 ≡ Some table = ap (slice_get after.schema.tables) is_number ∙ at_after in
      let is_after : change.after ≡ row_at table (rows_at after.rows number) change.name.key =
      told.is ∙ (named_in after.schema after.rows change.name table own_after ∙ ap (λ n. row_at table (rows_at after.rows n) change.name.key) is_number) in
      record {
        was = told.was ∙ (named_in before.schema before.rows change.name table own ∙ ap (λ n. row_at table (rows_at before.rows n) change.name.key) is_number);
        may = subst (λ (o : Option Row). IfSome o (StandsUnder table change.name.key)) (sym is_after) (found_stands table change.name.key (rows_at after.rows number) (stored_at after.rows number stored));
      }

  -- the changes of a table fit
  pub lead_fits : AllFit number table changes (rows_at before.rows number)
  lead_fits = all_fit number table changes (rows_at before.rows number) (each_weaker _ _ tells changes lead.each) (lead.once number)

  -- and give its rows
  pub lead_gives : after_changes number table changes (rows_at before.rows number) ≡ rows_at after.rows number
  lead_gives =
      let none : 0 + number ≡ number = omega arith in
      changes_put number table changes (rows_at before.rows number)
      ∙ (ap (λ n. rows_put n table changes (rows_at before.rows number)) (sym none)
      ∙ (sym (put_at 0 before.schema.tables before.rows changes number table ordered.rising at)
      ∙ ap (λ rows. rows_at rows number) (put_leads before after schema changes ordered rises lead)))

-- A row behind some that stand by key, put there.

put_last : (table : TableDef) (front : List Row) (row : Row) → IsRising (key_of table) key_cmp (front ++ row ∷ []) → changed table (key_of table row) (Some row) front ≡ front ++ row ∷ []
unfolding with_change
put_last table front row rising =
    let below = rising_before (key_of table) key_cmp front row [] rising in
    let kept : below_key (key_of table) key_cmp (key_of table row) front ≡ front = filter_all (λ item. is_lt (key_cmp (key_of table item) (key_of table row))) front (each_weaker _ _ (λ item less. ap is_lt less) front below) in
    let gone : above_key (key_of table) key_cmp (key_of table row) front ≡ [] = filter_none (λ item. is_gt (key_cmp (key_of table item) (key_of table row))) front (each_weaker _ _ (λ item less. ap is_gt less) front below) in
    ap (λ (rows : List Row). rows ++ (row ∷ above_key (key_of table) key_cmp (key_of table row) front)) kept ∙ ap (λ (rows : List Row). front ++ row ∷ rows) gone

-- under the key of a row behind some nothing stands yet
not_yet : (table : TableDef) (front : List Row) (row : Row) → IsRising (key_of table) key_cmp (front ++ row ∷ []) → row_at table front (key_of table row) ≡ None
unfolding found
not_yet table front row rising = none front (rising_before (key_of table) key_cmp front row [] rising)
  where
    none : (front : List Row) → Each (λ item. key_cmp (key_of table item) (key_of table row) ≡ Less) front → row_at table front (key_of table row) ≡ None
    none [] below = refl
    none (item ∷ front) below = rw below.0 (none front below.1)

itself : (n : ℕ) → eqb n n ≡ true
itself n = grind (arith, nat_tests)

module _ (number : TableNo) (table : TableDef) where
  own : (row : Row) → is_of_table number.0 (inserted number table row) ≡ true
  own row = itself number.0

  -- all rows, one after another
  pub inserts_fit : (front rows : List Row) → IsRising (key_of table) key_cmp (front ++ rows) → Each IsStoredRow rows → AllFit number.0 table (map (inserted number table) rows) front
  unfolding AllFit
  inserts_fit front [] rising stored = tt
  inserts_fit front (row ∷ rows) rising stored = (
    (λ of. record { was = sym (not_yet table front row first); may = record { keyed = refl; stored = stored.0 } }),
    subst (AllFit number.0 table (map (inserted number table) rows)) (sym step) (inserts_fit (front ++ row ∷ []) rows (subst (IsRising (key_of table) key_cmp) parts rising) stored.1),
  )
    where
      parts : front ++ (row ∷ rows) ≡ (front ++ row ∷ []) ++ rows
      parts = sym (append_assoc front (row ∷ []) rows)

      first : IsRising (key_of table) key_cmp (front ++ row ∷ [])
      first = rising_front (key_of table) key_cmp (front ++ row ∷ []) rows (subst (IsRising (key_of table) key_cmp) parts rising)

      step : after_change number.0 table (inserted number table row) front ≡ front ++ row ∷ []
      step = ap (λ b. cond b (changed table (key_of table row) (Some row) front) front) (own row) ∙ put_last table front row first

  pub inserts_give : (front rows : List Row) → IsRising (key_of table) key_cmp (front ++ rows) → after_changes number.0 table (map (inserted number table) rows) front ≡ front ++ rows
  unfolding after_changes
  inserts_give front [] rising = sym (append-nil front)
  inserts_give front (row ∷ rows) rising =
      ap (after_changes number.0 table (map (inserted number table) rows)) step
      ∙ (inserts_give (front ++ row ∷ []) rows (subst (IsRising (key_of table) key_cmp) parts rising) ∙ append_assoc front (row ∷ []) rows)
    where
      parts : front ++ (row ∷ rows) ≡ (front ++ row ∷ []) ++ rows
      parts = sym (append_assoc front (row ∷ []) rows)

      first : IsRising (key_of table) key_cmp (front ++ row ∷ [])
      first = rising_front (key_of table) key_cmp (front ++ row ∷ []) rows (subst (IsRising (key_of table) key_cmp) parts rising)

      step : after_change number.0 table (inserted number table row) front ≡ front ++ row ∷ []
      step = ap (λ b. cond b (changed table (key_of table row) (Some row) front) front) (own row) ∙ put_last table front row first
