-- Each cell that breaks UNIQUE shares what the row of some change came to hold.
use Rattle.std.proofs.Common.{◌≡◌, ℕ, zero, suc, List, [], ◌∷◌, Bool, true, false, ◌&&◌, not, inl, inr, refl, ap, sym, ◌∙◌, subst}
use Rattle.std.specs.Prelude.{◌⊎◌, Contains, Option, None, Some, slice_get}
use Rattle.std.specs.Option.{option_map_or}
use Rattle.std.proofs.lemmas.Bool.{and_from, and_parts, not_from_false}
use Rattle.std.proofs.lemmas.Option.{get_or_from_slice_get, slice_get_read, slice_get_within}
use Rattle.own_base.specs.Key.{key_cmp}
use Rattle.own_base.specs.declared.change.Change.{Change}
use Rattle.own_base.specs.declared.row_name.RowName.{RowName}
use Rattle.own_base.specs.declared.value.Key.{Key}
use Rattle.own_base.specs.declared.value.Key.TheVariants as key
use Rattle.own_base.specs.declared.value.Value.{Value}
use Rattle.own_base.specs.declared.value.Value.TheVariants.{Null, Int, Text, Sum}
use Rattle.own_model.specs.declared.schema.Column.{Column}
use Rattle.own_model.specs.declared.schema.Kind.{Kind}
use Rattle.own_model.specs.declared.schema.Schema.{Schema}
use Rattle.own_model.specs.declared.schema.TableDef.{TableDef}
use Rattle.own_model.specs.Db.{Db, IsOrdered, Row, key_of}
use Rattle.own_model.specs.Stored.{has_key, is_equal, rows_at}
use Rattle.owner_model.specs.Joins.{row_of}
use Rattle.query_model.specs.Footprints.{literal_key}
use Rattle.query_model.specs.Truth.{cell, is_null}
use Rattle.schema_model.proofs.Places.{all-at}
use Rattle.subject_model.proofs.Members.{any_contained, contains_any}
use Rattle.state_model.specs.Fault.{breaks_unique, first_of, is_shared, unique_faults}
use Rattle.state_model.specs.LeadTo.{LeadTo}
use Rattle.state_model.specs.Rows.{AreOfKinds, AreRowsOf, IsOfKind, IsRowOf}
use Rattle.state_model.specs.Same.{is_same_value}
use Rattle.state_model.proofs.FaultLemmas.{column_value}
use Rattle.state_model.proofs.NetRows.{named_at}
use Rattle.state_model.proofs.StoredRows.{rows-at}
use Rattle.link_model.specs.Holds.{holds}
use Rattle.change_check.specs.declared.cell_name.CellName.{CellName}
use Rattle.change_check.specs.declared.refusing.Rule.TheVariants.{Unique}
use Rattle.change_check.specs.Least.{IsFurther, is_reached}
use Rattle.change_check.specs.Rule.{breaks_at, breaks_by, refusal_at, refused_by}
use Rattle.change_check.specs.Shared.{HoldsWhatCame}
use Rattle.change_check.proofs.CameLemmas.{CameBy, held_or_came}
use Rattle.change_check.proofs.HeldLemmas.{holds_key, key_holds, same_holds}
use Rattle.change_check.proofs.BrokenCells.{breaks-broken, broken, found_at, named_place}
use Rattle.change_check.proofs.LeastFault.{first_of_least, none_broken}
use Rattle.change_check.proofs.HolderRows.{key_some, some_holding}

-- what stands in a row of a table and isn't NULL has a key
kind_key : (kind : Kind) (value : Value) → IsOfKind kind value → is_null value ≡ false → (own : Key) × (literal_key value ≡ Some own)
kind_key kind Null is whole = let never : true ≡ false = whole in cc
kind_key kind (Int number) is whole = (key.Int number, refl)
kind_key kind (Text bytes) is whole = (key.Text bytes, refl)
kind_key kind (Sum number) is whole = absurd is

kinds_key : (columns : List Column) (row : Row) (number : ℕ) → AreOfKinds columns row → is_null (cell row number) ≡ false → (own : Key) × (literal_key (cell row number) ≡ Some own)
kinds_key [] [] number are whole = let never : true ≡ false = whole in cc
kinds_key [] (value ∷ row) number are whole = absurd are
kinds_key (column ∷ columns) [] number are whole = absurd are
kinds_key (column ∷ columns) (value ∷ row) zero are whole = kind_key column.kind value are.0 whole
kinds_key (column ∷ columns) (value ∷ row) (suc number) are whole = kinds_key columns row number are.1 whole

-- an element of a list at its place
contains_place : {X : Type 0} (xs : List X) (x : X) → Contains xs x → (place : ℕ) × (slice_get xs place ≡ Some x)
contains_place xs x (place, within, at) = (place, slice_get_read xs _ place x refl within (sym at))

place_contains : {X : Type 0} (xs : List X) (place : ℕ) (x : X) → slice_get xs place ≡ Some x → Contains xs x
place_contains xs place x is = (place, slice_get_within xs place x is, get_or_from_slice_get xs place x x is)

-- in a table, two rows of which neither is the other, that hold one value in a UNIQUE column
two_share : (db : Db) (name : CellName) (other : Key) (table : TableDef) (column : Column) (value : Key) (one two : Row) → IsOrdered db → slice_get db.schema.tables name.row.table.0 ≡ Some table
    → slice_get table.columns name.column.0 ≡ Some column → column.unique ≡ true → row_of db name.row ≡ Some one → row_of db (record { table = name.row.table; key = other }) ≡ Some two
    → holds name.column.0 value one ≡ true → holds name.column.0 value two ≡ true → is_equal (key_cmp other name.row.key) ≡ false → breaks_at (breaks_by Unique db) db name ≡ true
two_share db name other table column value one two ordered table_is column_is unique one_is two_is one_holds two_holds differ =
    let n = name.column.0 in
    let rows = rows_at db.rows name.row.table.0 in
    let at_one = found_at table name.row.key rows one (sym (named_at db name.row table table_is) ∙ one_is) in
    let at_two = found_at table other rows two (sym (named_at db (record { table = name.row.table; key = other }) table table_is) ∙ two_is) in
    let apart : has_key table (key_of table one) two ≡ false =
    ap (λ k. is_equal (key_cmp k (key_of table one))) at_two.key_is ∙ (ap (λ k. is_equal (key_cmp other k)) at_one.key_is ∙ differ) in
    let one_key = holds_key n value one one_holds in
    let same : is_same_value (cell two n) (cell one n) ≡ true = same_holds n one two value one_key ∙ two_holds in
    let shared : is_shared table rows (key_of table one) n (cell one n) ≡ true =
    any_contained (λ row. not (has_key table (key_of table one) row) && is_same_value (cell row n) (cell one n)) rows two (place_contains rows at_two.place two at_two.place_is)
    (and_from _ _ (not_from_false _ apart) same) in
    let breaks : breaks_unique table rows one (column_value one n column) ≡ true =
    and_from (column.unique && not (is_null (cell one n))) (is_shared table rows (key_of table one) n (cell one n))
    (and_from column.unique (not (is_null (cell one n))) unique (not_from_false _ (key_some (cell one n) value one_key))) shared in
    breaks-broken (breaks_by Unique db) db name table one column table_is one_is column_is ∙ breaks

-- a change that brought what a cell holds
pub record CaughtBy (after : Db) (changes : List Change) (name : CellName) : Type 0 where
  pub place : ℕ
  pub change : Change
  pub change_is : slice_get changes place ≡ Some change
  pub held : HoldsWhatCame after change name

module _ (before after : Db) (changes : List Change) (lead : LeadTo before after changes) (ordered_before : IsOrdered before) (ordered : IsOrdered after)
    (schema : before.schema ≡ after.schema) (rows : AreRowsOf after.schema.tables after.rows) (none : unique_faults before ≡ []) where
  abbrev test : CellName → Bool
  test = breaks_at (breaks_by Unique after) after

  came_caught : (name : CellName) (own : RowName) (value : Key) (row : Row) → own.table ≡ name.row.table → row_of after name.row ≡ Some row → holds name.column.0 value row ≡ true
      → CameBy before after changes lead own name.column.0 value → CaughtBy after changes name
  came_caught name own value row table is holding came = record {
    place = came.named.place;
    change = came.named.change;
    change_is = came.named.change_is;
    held = record {
      table = ap (λ t. t.0) (sym table) ∙ ap (λ (n : RowName). n.table.0) (sym came.named.name_is);
      value = value;
      came = came.came;
      holds = ap (λ o. option_map_or (holds name.column.0 value) o false) is ∙ holding;
    };
  }

  pub caught_by_change : (name : CellName) → test name ≡ true → CaughtBy after changes name
  unfolding unique_faults
  caught_by_change name breaks =
      let it = broken (breaks_by Unique after) after name breaks in
      let number = name.row.table.0 in
      let n = name.column.0 in
      let own = rows_at after.rows number in
      let both = and_parts (it.column.unique && not (is_null (cell it.row n))) (is_shared it.table own (key_of it.table it.row) n (cell it.row n)) it.broke in
      let first = and_parts it.column.unique (not (is_null (cell it.row n))) both.0 in
      let at = found_at it.table name.row.key own it.row (sym (named_at after name.row it.table it.table_is) ∙ it.row_is) in
      let is : IsRowOf it.table it.row = all-at (IsRowOf it.table) own (rows-at after.schema.tables after.rows number it.table rows it.table_is) at.place it.row at.place_is in
      let (value, key_is) = kinds_key it.table.columns it.row n is.kinds (not_false _ first.1) in
      let holding = key_holds n value it.row key_is in
      let (other, among, passes) = contains_any (λ row. not (has_key it.table (key_of it.table it.row) row) && is_same_value (cell row n) (cell it.row n)) own both.1 in
      let parts = and_parts (not (has_key it.table (key_of it.table it.row) other)) (is_same_value (cell other n) (cell it.row n)) passes in
      let other_holds : holds n value other ≡ true = sym (same_holds n it.row other value key_is) ∙ parts.1 in
      let (place, other_at) = contains_place own other among in
      let other_is = named_place after number it.table place other ordered it.table_is other_at in
      let differ : is_equal (key_cmp (key_of it.table other) name.row.key) ≡ false = subst (λ k. is_equal (key_cmp (key_of it.table other) k) ≡ false) at.key_is (not_false _ parts.0) in
      by name it.table it.row it.column value other it.table_is it.column_is first.0 it.row_is holding other_is other_holds differ
      (held_or_came before after changes lead name.row n value it.row it.row_is holding)
      (held_or_came before after changes lead (record { table = name.row.table; key = key_of it.table other }) n value other other_is other_holds)
    where
      not_false : (b : Bool) → not b ≡ true → b ≡ false
      not_false true is = let never : false ≡ true = is in cc
      not_false false is = refl

      by : (name : CellName) (table : TableDef) (row : Row) (column : Column) (value : Key) (other : Row) → slice_get after.schema.tables name.row.table.0 ≡ Some table
          → slice_get table.columns name.column.0 ≡ Some column → column.unique ≡ true → row_of after name.row ≡ Some row → holds name.column.0 value row ≡ true
          → row_of after (record { table = name.row.table; key = key_of table other }) ≡ Some other → holds name.column.0 value other ≡ true
          → is_equal (key_cmp (key_of table other) name.row.key) ≡ false
          → CameBy before after changes lead name.row name.column.0 value ⊎ (option_map_or (holds name.column.0 value) (row_of before name.row) false ≡ true)
          → CameBy before after changes lead (record { table = name.row.table; key = key_of table other }) name.column.0 value
          ⊎ (option_map_or (holds name.column.0 value) (row_of before (record { table = name.row.table; key = key_of table other })) false ≡ true)
          → CaughtBy after changes name
      by name table row column value other table_is column_is unique is holding other_is other_holds differ (inl came) second = came_caught name name.row value row refl is holding came
      by name table row column value other table_is column_is unique is holding other_is other_holds differ (inr held) (inl came) =
          came_caught name (record { table = name.row.table; key = key_of table other }) value row refl is holding came
      by name table row column value other table_is column_is unique is holding other_is other_holds differ (inr held) (inr other_held) =
          let one = some_holding name.column.0 value (row_of before name.row) held in
          let two = some_holding name.column.0 value (row_of before (record { table = name.row.table; key = key_of table other })) other_held in
          let there : slice_get before.schema.tables name.row.table.0 ≡ Some table = ap (λ (s : Schema). slice_get s.tables name.row.table.0) schema ∙ table_is in
          absurd (none_broken (breaks_by Unique before) (refused_by Unique) before ordered_before none name
          (two_share before name (key_of table other) table column value one.0 two.0 ordered_before there column_is unique one.1 two.1 one.2 two.2 differ))

  -- So the least cell that was found, where all that each change brought is reached, has the first fault.
  pub unique_least : (least : Option CellName) → IsFurther test None least
      → ((place : ℕ) (change : Change) → slice_get changes place ≡ Some change → (name : CellName) → HoldsWhatCame after change name → test name ≡ true → is_reached least name ≡ true)
      → first_of (unique_faults after) ≡ refusal_at (refused_by Unique) after.schema least
  unfolding unique_faults
  unique_least least further caught =
      first_of_least (breaks_by Unique after) (refused_by Unique) after ordered least (record {
        own = further.own tt;
        reached = λ name breaks. let by = caught_by_change name breaks in caught by.place by.change by.change_is name by.held breaks;
      })
