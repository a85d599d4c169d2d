-- The rows of a table after a change.
use Rattle.std.proofs.Common.{◌≡◌, ℕ, zero, refl, sym, ◌∙◌, ap, subst, List, [], ◌∷◌, Option, Some, None}
use Rattle.std.specs.Prelude.{Bool, true, false, cond, filter, IfSome}
use Rattle.std.specs.List.{AllByRecursion as Each}
use Rattle.std.specs.Ordering.{is_eq}
use Rattle.own_base.specs.Key.{key_cmp}
use Rattle.own_base.specs.declared.change.Change.{Change}
use Rattle.own_base.specs.declared.value.Key.{Key}
use Rattle.own_model.specs.declared.schema.TableDef.{TableDef}
use Rattle.own_model.specs.Db.{Row, key_of}
use Rattle.own_model.proofs.KeyOrder.{key_order}
use Rattle.page_model.specs.Changed.{with_changes}
use Rattle.page_model.specs.Found.{found}
use Rattle.page_model.specs.Rising.{IsRising}
use Rattle.page_model.proofs.ChangedLemmas.{each_with_changes, rising_filter, rising_with_changes}
use Rattle.page_model.proofs.FoundChanged.{found_changed}
use Rattle.page_model.proofs.Ordered.{equal_from}
use Rattle.page_model.proofs.SameFound.{same_found}
use Rattle.query_model.specs.Stored.{IsStoredRow}
use Rattle.ordered_pairs.specs.KeyExact.{key_exact}
use Rattle.state_model.specs.Put.{is_of_table}
use Rattle.view_deltas.specs.Changes.{after_change, FollowsOne}
use Rattle.view_deltas.specs.TableRows.{AreRows, changed, Fits, Follows, row_at, StandsUnder}

if_keyed : (table : TableDef) (key : Key) (after : Option Row) → IfSome after (StandsUnder table key) → IfSome after (λ row. key_of table row ≡ key)
if_keyed table key None may = tt
if_keyed table key (Some row) may = may.keyed

if_stored : (table : TableDef) (key : Key) (after : Option Row) → IfSome after (StandsUnder table key) → IfSome after IsStoredRow
if_stored table key None may = tt
if_stored table key (Some row) may = may.stored

module _ (table : TableDef) (key : Key) (before after : Option Row) (rows : List Row) (fits : Fits table rows key before after) where
  abbrev the_key : ℕ → Key
  the_key n = key

  abbrev the_row : ℕ → Option Row
  the_row n = after

  -- under the key stands what is put, and under each other what stood there
  pub row_changed : (other : Key) → row_at table (changed table key after rows) other ≡ cond (is_eq (key_cmp key other)) after (row_at table rows other)
  row_changed other = found_changed (key_of table) key_order the_key the_row other key after rows (if_keyed table key after fits.may)

  one_change : with_changes (key_of table) key_cmp the_key the_row (zero ∷ []) rows ≡ changed table key after rows
  unfolding with_changes
  one_change = refl

  -- and they stand by key
  pub rows_changed : AreRows table rows → AreRows table (changed table key after rows)
  rows_changed are = record {
    rise = subst (IsRising (key_of table) key_cmp) one_change
        (rising_with_changes (key_of table) key_order the_key the_row (zero ∷ []) rows (if_keyed table key after fits.may, tt) are.rise);
    stored = subst (Each IsStoredRow) one_change
        (each_with_changes (key_of table) key_order the_key the_row IsStoredRow (zero ∷ []) rows are.stored (if_stored table key after fits.may, tt));
  }

module _ (number : ℕ) (table : TableDef) (change : Change) where
  by_table : (rows : List Row) → AreRows table rows → (b : Bool) → (b ≡ true → Fits table rows change.name.key change.before change.after)
      → AreRows table (cond b (changed table change.name.key change.after rows) rows)
  by_table rows are true fits = rows_changed table change.name.key change.before change.after rows (fits refl) are
  by_table rows are false fits = are

  pub rows_after : (rows : List Row) → AreRows table rows → (is_of_table number change ≡ true → Fits table rows change.name.key change.before change.after) → AreRows table (after_change number table change rows)
  rows_after rows are fits = by_table rows are (is_of_table number change) fits

  -- a change of the table is followed, and one of another leaves all
  pub follows_here : {S : Type 0} (Keeps : List Row → S → Type 0) (old new : S) → is_of_table number change ≡ true
      → Follows Keeps table change.name.key change.before change.after old new → FollowsOne Keeps number table change old new
  follows_here Keeps old new of follows rows are fits kept =
      subst (λ (b : Bool). Keeps (cond b (changed table change.name.key change.after rows) rows) new) (sym of) (follows rows are (fits of) kept)

  pub follows_other : {S : Type 0} (Keeps : List Row → S → Type 0) (state : S) → is_of_table number change ≡ false → FollowsOne Keeps number table change state state
  follows_other Keeps state other rows are fits kept =
      subst (λ (b : Bool). Keeps (cond b (changed table change.name.key change.after rows) rows) state) (sym other) kept

-- the rows that pass a test stand by key too
pub rows_passing : (table : TableDef) (passes : Row → Bool) (rows : List Row) → IsRising (key_of table) key_cmp rows → IsRising (key_of table) key_cmp (filter passes rows)
rows_passing table passes rows rising =
    let no_key : Change → Key = λ change. change.name.key in
    let no_row : Change → Option Row = λ change. change.after in
    rising_filter (key_of table) key_order no_key no_row passes rows rising

-- what is found in rows that all pass a test passes, and is told by its key
pub found_stands : (table : TableDef) (key : Key) (rows : List Row) → Each IsStoredRow rows → IfSome (row_at table rows key) (StandsUnder table key)
unfolding found
found_stands table key [] stored = tt
found_stands table key (row ∷ rows) stored = by (is_eq (key_cmp (key_of table row) key)) refl (found_stands table key rows stored.1)
  where
    by : (b : Bool) → is_eq (key_cmp (key_of table row) key) ≡ b → IfSome (row_at table rows key) (StandsUnder table key) → IfSome (cond b (Some row) (row_at table rows key)) (StandsUnder table key)
    by true tied more = record { keyed = key_exact (key_of table row) key (equal_from _ tied); stored = stored.0 }
    by false apart more = more

-- rows stay as they are where the row of a key is put in its place
pub put_back : (table : TableDef) (key : Key) (rows : List Row) → AreRows table rows → changed table key (row_at table rows key) rows ≡ rows
put_back table key rows are =
    let fits : Fits table rows key (row_at table rows key) (row_at table rows key) = record { was = refl; may = found_stands table key rows are.stored } in
    same_found (key_of table) key_order (changed table key (row_at table rows key) rows) rows
    (rows_changed table key (row_at table rows key) (row_at table rows key) rows fits are).rise are.rise
    (λ other. row_changed table key (row_at table rows key) (row_at table rows key) rows fits other ∙ same other (is_eq (key_cmp key other)) refl)
  where
    same : (other : Key) (b : Bool) → is_eq (key_cmp key other) ≡ b → cond b (row_at table rows key) (row_at table rows other) ≡ row_at table rows other
    same other true tied = ap (row_at table rows) (key_exact key other (equal_from _ tied))
    same other false apart = refl
