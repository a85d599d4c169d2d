-- The first of those who hold what a row came to hold in a UNIQUE column.
use Rattle.std.proofs.Common.{◌≡◌, ℕ, ◌+◌, ◌<◌, List, [], ◌∷◌, length, Bool, true, false, ◌&&◌, cond, not, inl, inr, refl, ap, sym, ◌∙◌, subst, arith}
use Rattle.std.specs.Prelude.{Contains, IfSome, Option, None, Some, nat_lt, slice_get}
use Rattle.std.specs.List.Sorted.{IsStrictlySortedBy}
use Rattle.std.specs.Option.{option_and_then, option_map_or}
use Rattle.std.proofs.lemmas.Bool.{and_parts, cases_lt, lt-ltb}
use Rattle.std.proofs.lemmas.Option.{get_or_from_slice_get, slice_get_within}
use Rattle.own_base.specs.Key.{key_cmp}
use Rattle.own_base.specs.declared.change.Change.{Change}
use Rattle.own_base.specs.declared.value.Key.{Key}
use Rattle.own_model.specs.declared.schema.Column.{Column}
use Rattle.own_model.specs.declared.schema.TableDef.{TableDef}
use Rattle.own_model.specs.Db.{Db, IsOrdered, IsRising, Row, key_of}
use Rattle.own_model.specs.Stored.{rows_at}
use Rattle.owner_model.specs.Joins.{row_of}
use Rattle.query_model.specs.Truth.{cell, is_null}
use Rattle.schema_model.proofs.Places.{place-lt}
use Rattle.owner_sets.proofs.Searched.{rising_at}
use Rattle.subject_model.proofs.Members.{contains_here}
use Rattle.state_model.specs.Fault.{breaks_unique, is_shared}
use Rattle.state_model.proofs.FaultLemmas.{column_value}
use Rattle.state_model.proofs.NetRows.{named_at}
use Rattle.link_model.specs.Holds.{holders, holders_at, holds}
use Rattle.change_check.specs.declared.cell_name.CellName.{CellName}
use Rattle.change_check.specs.declared.refusing.Rule.TheVariants.{Unique}
use Rattle.change_check.specs.CellOrder.{cell_at}
use Rattle.change_check.specs.Holders.{first_of_many}
use Rattle.change_check.specs.Least.{IsFurther, is_reached, lower}
use Rattle.change_check.specs.Came.{came}
use Rattle.change_check.specs.Rule.{breaks_at, breaks_by}
use Rattle.change_check.specs.Shared.{HoldsWhatCame, shared_by}
use Rattle.change_check.proofs.HeldLemmas.{holds_key, shared_held}
use Rattle.change_check.proofs.BrokenCells.{FoundAt, breaks-broken, broken, found_at, named_place}
use Rattle.change_check.proofs.HolderRows.{first_not_behind, holder_row, holders_in, key_some, row_holder, sorted_holders}
use Rattle.change_check.proofs.LeastLemmas.{further_lower, further_then, reached_lower, still_lower}

module _ (db : Db) (ordered : IsOrdered db) (change : Change) (table : TableDef) (table_is : slice_get db.schema.tables change.name.table.0 ≡ Some table)
    (number : ℕ) (column : Column) (column_is : slice_get table.columns number ≡ Some column) where
  abbrev rows : List Row
  rows = rows_at db.rows change.name.table.0

  rising : IsRising table rows
  rising = rising_at db.schema.tables db.rows change.name.table.0 table ordered.rising table_is

  abbrev test : CellName → Bool
  test = breaks_at (breaks_by Unique db) db

  -- the first of two who hold a value in a UNIQUE column breaks the rule
  first_breaks : (value first other : Key) (more : List Key) → column.unique ≡ true → holders table rows number value ≡ first ∷ other ∷ more → test (cell_at change.name.table.0 number first) ≡ true
  first_breaks value first other more unique are =
      let own = holder_row table rows number value first (subst (λ keys. Contains keys first) (sym are) (contains_here first (other ∷ more))) in
      let key = holds_key number value own.row own.holds in
      let shared : is_shared table rows (key_of table own.row) number (cell own.row number) ≡ true =
      shared_held table rows own.place own.row number value rising own.place_is key ∙ (ap (λ keys. nat_lt 1 (length keys)) are ∙ lt-ltb 1 (length (first ∷ other ∷ more)) (omega arith)) in
      let whole = key_some (cell own.row number) value key in
      let breaks : breaks_unique table rows own.row (column_value own.row number column) ≡ true = rw (unique, whole) shared in
      let found = named_place db change.name.table.0 table own.place own.row ordered table_is own.place_is in
      let named : row_of db (cell_at change.name.table.0 number first).row ≡ Some own.row = subst (λ k. row_of db (cell_at change.name.table.0 number k).row ≡ Some own.row) own.key_is found in
      breaks-broken (breaks_by Unique db) db (cell_at change.name.table.0 number first) table own.row column table_is named column_is ∙ breaks

  shared_passes_keys : (value : Key) → column.unique ≡ true → (keys : List Key) → holders table rows number value ≡ keys
      → IfSome (first_of_many change.name.table.0 number keys) (λ name. test name ≡ true)
  shared_passes_keys value unique [] are = tt
  shared_passes_keys value unique (one ∷ []) are = tt
  shared_passes_keys value unique (first ∷ other ∷ more) are = first_breaks value first other more unique are

  -- so what is found by a change in a column breaks the rule
  pub shared_passes : IfSome (shared_by db change number column) (λ name. test name ≡ true)
  shared_passes = by column.unique refl (came number change)
    where
      by : (b : Bool) → column.unique ≡ b → (o : Option Key)
          → IfSome (cond b (option_and_then (λ value. first_of_many change.name.table.0 number (holders_at db change.name.table.0 number value)) o) None) (λ name. test name ≡ true)
      by true unique None = tt
      by true unique (Some value) = shared_passes_keys value unique (holders_at db change.name.table.0 number value) (sym (holders_in db change.name.table.0 number value table table_is))
      by false not_unique o = tt

  two_keys : (value key : Key) (found : Option CellName) → (keys : List Key) → IsStrictlySortedBy key_cmp keys → Contains keys key → nat_lt 1 (length keys) ≡ true
      → is_reached (lower (first_of_many change.name.table.0 number keys) found) (cell_at change.name.table.0 number key) ≡ true
  two_keys value key found [] sorted among many = let never : false ≡ true = many in cc
  two_keys value key found (one ∷ []) sorted among many = let never : false ≡ true = many in cc
  two_keys value key found (first ∷ other ∷ more) sorted among many =
      reached_lower (cell_at change.name.table.0 number first) (cell_at change.name.table.0 number key) found (first_not_behind change.name.table.0 number first key (other ∷ more) sorted among)

  what_came : (value : Key) → column.unique ≡ true → came number change ≡ Some value → shared_by db change number column ≡ first_of_many change.name.table.0 number (holders table rows number value)
  what_came value unique is = by column.unique (came number change) unique is
    where
      by : (b : Bool) (o : Option Key) → b ≡ true → o ≡ Some value
          → cond b (option_and_then (λ value. first_of_many change.name.table.0 number (holders_at db change.name.table.0 number value)) o) None
          ≡ first_of_many change.name.table.0 number (holders table rows number value)
      by true (Some other) unique some =
          let same : other ≡ value = cc in
          ap (λ v. first_of_many change.name.table.0 number (holders_at db change.name.table.0 number v)) same
          ∙ ap (first_of_many change.name.table.0 number) (holders_in db change.name.table.0 number value table table_is)
      by true None unique some = let never : ◌≡◌ {A = Option Key} None (Some value) = some in cc
      by false o unique some = let never : false ≡ true = unique in cc

  reaches_at : (found : Option CellName) (key : Key) → HoldsWhatCame db change (cell_at change.name.table.0 number key) → test (cell_at change.name.table.0 number key) ≡ true
      → is_reached (lower (shared_by db change number column) found) (cell_at change.name.table.0 number key) ≡ true
  reaches_at found key held breaks =
      let name = cell_at change.name.table.0 number key in
      let it = broken (breaks_by Unique db) db name breaks in
      let tables : ◌≡◌ {A = Option TableDef} (Some it.table) (Some table) = sym it.table_is ∙ table_is in
      let same_table : it.table ≡ table = cc in
      let columns : ◌≡◌ {A = Option Column} (Some it.column) (Some column) = sym it.column_is ∙ (ap (λ (t : TableDef). slice_get t.columns number) same_table ∙ column_is) in
      let same_column : it.column ≡ column = cc in
      let broke : breaks_unique table rows it.row (column_value it.row number column) ≡ true =
      subst (λ c. breaks_unique table rows it.row (column_value it.row number c) ≡ true) same_column
      (subst (λ t. breaks_unique t rows it.row (column_value it.row number it.column) ≡ true) same_table it.broke) in
      let both = and_parts (column.unique && not (is_null (cell it.row number))) (is_shared table rows (key_of table it.row) number (cell it.row number)) broke in
      let unique = (and_parts column.unique (not (is_null (cell it.row number))) both.0).0 in
      let value = held.value in
      let holding : holds number value it.row ≡ true = subst (λ o. option_map_or (holds number value) o false ≡ true) it.row_is held.holds in
      let at : FoundAt table key rows it.row = found_at table key rows it.row (sym (named_at db name.row table table_is) ∙ it.row_is) in
      let many : nat_lt 1 (length (holders table rows number value)) ≡ true =
      sym (shared_held table rows at.place it.row number value rising at.place_is (holds_key number value it.row holding)) ∙ both.1 in
      let among = row_holder table rows number value it.row
      (at.place, slice_get_within rows at.place it.row at.place_is, get_or_from_slice_get rows at.place it.row it.row at.place_is) holding in
      subst (λ shared. is_reached (lower shared found) name ≡ true) (sym (what_came value unique held.came))
      (two_keys value key found (holders table rows number value) (sorted_holders table rows number value rising) (subst (Contains (holders table rows number value)) at.key_is among) many)

  -- and it reaches each that breaks it by what the row of the change came to hold
  pub shared_reaches : (found : Option CellName) (name : CellName) → name.column.0 ≡ number → HoldsWhatCame db change name → test name ≡ true
      → is_reached (lower (shared_by db change number column) found) name ≡ true
  shared_reaches found name here held breaks =
      let same : cell_at change.name.table.0 number name.row.key ≡ name = ap (λ t. cell_at t number name.row.key) (sym held.table) ∙ ap (λ n. cell_at name.row.table.0 n name.row.key) (sym here) in
      let P : CellName → Type 0 = λ other. HoldsWhatCame db change other → test other ≡ true → is_reached (lower (shared_by db change number column) found) other ≡ true in
      subst P same (reaches_at found name.row.key) held breaks

  -- a column more takes what was found further
  pub further_column : (before found : Option CellName) → IsFurther test before found → IsFurther test before (lower (shared_by db change number column) found)
  further_column before found is =
      further_then test before found (lower (shared_by db change number column) found) is (further_lower test (shared_by db change number column) found shared_passes)

  -- and reaches what that column has
  pub caught_column : (found : Option CellName) → ((name : CellName) → name.column.0 < number → HoldsWhatCame db change name → test name ≡ true → is_reached found name ≡ true)
      → (name : CellName) → name.column.0 < number + 1 → HoldsWhatCame db change name → test name ≡ true → is_reached (lower (shared_by db change number column) found) name ≡ true
  caught_column found caught name within held breaks = elim (cases_lt name.column.0 number) [
    | inl before ↦ still_lower (shared_by db change number column) found name (caught name before held breaks)
    | inr not_before ↦ shared_reaches found name (omega arith) held breaks
  ]

-- a cell that breaks the rule is of a column that is there
pub column_within : (db : Db) (change : Change) (table : TableDef) (name : CellName) → slice_get db.schema.tables change.name.table.0 ≡ Some table → HoldsWhatCame db change name
    → breaks_at (breaks_by Unique db) db name ≡ true → name.column.0 < length table.columns
column_within db change table name table_is held breaks =
    let it = broken (breaks_by Unique db) db name breaks in
    let tables : ◌≡◌ {A = Option TableDef} (Some it.table) (Some table) = sym it.table_is ∙ (ap (slice_get db.schema.tables) held.table ∙ table_is) in
    let same : it.table ≡ table = cc in
    place-lt table.columns name.column.0 it.column (subst (λ t. slice_get t.columns name.column.0 ≡ Some it.column) same it.column_is)
