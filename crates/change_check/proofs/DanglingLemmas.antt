-- What the row of a change came to refer to.
use Rattle.std.proofs.Common.{◌≡◌, ℕ, ◌+◌, ◌<◌, Bool, true, false, cond, length, inl, inr, refl, ap, sym, ◌∙◌, subst, arith}
use Rattle.std.specs.Prelude.{IfSome, IsSome, Option, None, Some, slice_get}
use Rattle.std.specs.Option.{option_and_then}
use Rattle.std.proofs.lemmas.Bool.{cases_lt}
use Rattle.own_base.specs.Key.{key_cmp}
use Rattle.own_base.specs.declared.change.Change.{Change}
use Rattle.own_base.specs.declared.number.TableNo.{TableNo}
use Rattle.own_base.specs.declared.value.Key.{Key}
use Rattle.own_model.specs.declared.schema.Column.{Column}
use Rattle.own_model.specs.declared.schema.RefKind.{RefKind}
use Rattle.own_model.specs.declared.schema.TableDef.{TableDef}
use Rattle.own_model.specs.Db.{Db, Row}
use Rattle.own_model.specs.Stored.{is_equal}
use Rattle.owner_model.specs.Joins.{row_of}
use Rattle.query_model.specs.Footprints.{literal_key}
use Rattle.query_model.specs.Truth.{cell}
use Rattle.schema_model.proofs.Places.{place-lt}
use Rattle.subject_model.specs.Named.{is_there}
use Rattle.change_check.specs.declared.cell_name.CellName.{CellName}
use Rattle.change_check.specs.declared.refusing.Rule.TheVariants.{Reference}
use Rattle.change_check.specs.Came.{came, held, unless_same}
use Rattle.change_check.specs.CellOrder.{cell_at}
use Rattle.change_check.specs.Dangling.{IsWhatCame, dangling_by}
use Rattle.change_check.specs.Least.{IsFurther, is_reached, lower}
use Rattle.change_check.specs.Rule.{breaks_at, breaks_by}
use Rattle.change_check.proofs.CellOrderLemmas.{behind_itself}
use Rattle.change_check.proofs.BrokenCells.{breaks-broken, broken}
use Rattle.change_check.proofs.LeastLemmas.{further_lower, further_then, reached_lower, still_lower}
use Rattle.change_check.proofs.LinkLemmas.{names_none, none_named}

-- what came is what is held after
came_new : (old new : Option Key) (value : Key) → unless_same old new ≡ Some value → new ≡ Some value
came_new old None value is = let never : ◌≡◌ {A = Option Key} None (Some value) = is in cc
came_new None (Some new) value is = is
came_new (Some old) (Some new) value is = by (is_equal (key_cmp old new)) is
  where
    by : (b : Bool) → cond b None (Some new) ≡ Some value → Some new ≡ Some value
    by true none = let never : ◌≡◌ {A = Option Key} None (Some value) = none in cc
    by false some = some

-- in the row of the change
pub record CameIn (change : Change) (number : ℕ) (value : Key) : Type 0 where
  pub row : Row
  pub row_is : change.after ≡ Some row
  pub key_is : literal_key (cell row number) ≡ Some value

pub came_in : (change : Change) (number : ℕ) (value : Key) → came number change ≡ Some value → CameIn change number value
came_in change number value is = by change.after refl (came_new (held number change.before) (held number change.after) value is)
  where
    by : (o : Option Row) → change.after ≡ o → option_and_then (λ row. literal_key (cell row number)) o ≡ Some value → CameIn change number value
    by None none key_is = let never : ◌≡◌ {A = Option Key} None (Some value) = key_is in cc
    by (Some row) row_is key_is = record { row = row; row_is = row_is; key_is = key_is }

module _ (db : Db) (change : Change) (told : change.after ≡ row_of db change.name) (table : TableDef) (table_is : slice_get db.schema.tables change.name.table.0 ≡ Some table)
    (number : ℕ) (column : Column) (column_is : slice_get table.columns number ≡ Some column) where
  abbrev test : CellName → Bool
  test = breaks_at (breaks_by Reference db) db

  abbrev own : CellName
  own = cell_at change.name.table.0 number change.name.key

  -- what is found by a change in a column breaks the rule
  pub dangling_passes : IfSome (dangling_by db change number column) (λ name. test name ≡ true)
  dangling_passes = by column.refers refl
    where
      there : (link : RefKind × TableNo) (key : Key) → column.refers ≡ Some link → came number change ≡ Some key → (b : Bool) → is_there db (record { table = link.1; key = key }) ≡ b
          → IfSome (cond b None (Some own)) (λ name. test name ≡ true)
      there link key refers is true gone = tt
      there link key refers is false gone =
          let it = came_in change number key is in
          breaks-broken (breaks_by Reference db) db own table it.row column table_is (sym told ∙ it.row_is) column_is ∙ none_named db it.row number column link key refers it.key_is gone

      with_key : (link : RefKind × TableNo) → column.refers ≡ Some link → (o : Option Key) → came number change ≡ o
          → IfSome (option_and_then (λ key. cond (is_there db (record { table = link.1; key = key })) None (Some own)) o) (λ name. test name ≡ true)
      with_key link refers None is = tt
      with_key link refers (Some key) is = there link key refers is _ refl

      by : (o : Option (RefKind × TableNo)) → column.refers ≡ o
          → IfSome (option_and_then (λ (link : RefKind × TableNo). option_and_then (λ key. cond (is_there db (record { table = link.1; key = key })) None (Some own)) (came number change)) o)
          (λ name. test name ≡ true)
      by None refers = tt
      by (Some link) refers = with_key link refers _ refl

  -- where the cell breaks the rule it is found
  own_found : IsSome (came number change) → test own ≡ true → dangling_by db change number column ≡ Some own
  own_found some breaks =
      let it = broken (breaks_by Reference db) db own breaks in
      let tables : ◌≡◌ {A = Option TableDef} (Some it.table) (Some table) = sym it.table_is ∙ table_is in
      let same_table : it.table ≡ table = cc in
      let columns : ◌≡◌ {A = Option Column} (Some it.column) (Some column) = sym it.column_is ∙ (ap (λ (t : TableDef). slice_get t.columns number) same_table ∙ column_is) in
      let same_column : it.column ≡ column = cc in
      let names = names_none db it.row number it.column it.broke in
      let refers : column.refers ≡ Some names.link = ap (λ (c : Column). c.refers) (sym same_column) ∙ names.refers in
      by names.link names.key refers names.gone it.row it.row_is names.key_is (came number change) refl some
    where
      by : (link : RefKind × TableNo) (key : Key) → column.refers ≡ Some link → is_there db (record { table = link.1; key = key }) ≡ false → (row : Row) → row_of db change.name ≡ Some row
          → literal_key (cell row number) ≡ Some key → (o : Option Key) → came number change ≡ o → IsSome o → dangling_by db change number column ≡ Some own
      by link key refers gone row row_is key_is None is some = let never : false ≡ true = some in cc
      by link key refers gone row row_is key_is (Some value) is some =
          let it = came_in change number value is in
          let rows : ◌≡◌ {A = Option Row} (Some it.row) (Some row) = sym it.row_is ∙ (told ∙ row_is) in
          let same : it.row ≡ row = cc in
          let keys : ◌≡◌ {A = Option Key} (Some value) (Some key) = sym it.key_is ∙ (ap (λ r. literal_key (cell r number)) same ∙ key_is) in
          let one : value ≡ key = cc in
          ap (option_and_then (λ (link : RefKind × TableNo). option_and_then (λ key. cond (is_there db (record { table = link.1; key = key })) None (Some own)) (came number change))) refers
          ∙ (ap (option_and_then (λ key. cond (is_there db (record { table = link.1; key = key })) None (Some own))) (is ∙ ap Some one)
          ∙ ap (λ b. cond b None (Some own)) gone)

  -- and reached
  pub dangling_reaches : (found : Option CellName) (name : CellName) → name.column.0 ≡ number → IsWhatCame change name → test name ≡ true
      → is_reached (lower (dangling_by db change number column) found) name ≡ true
  dangling_reaches found name here is breaks =
      let same : name ≡ own = ap (λ n. cell_at name.row.table.0 n name.row.key) here ∙ ap (λ row. record { row = row; column = record { 0 = number } }) is.row in
      let some : IsSome (came number change) = subst (λ n. IsSome (came n change)) here is.came in
      let finds = own_found some (subst (λ (other : CellName). test other ≡ true) same breaks) in
      subst (λ (other : CellName). is_reached (lower (dangling_by db change number column) found) other ≡ true) (sym same)
      (subst (λ o. is_reached (lower o found) own ≡ true) (sym finds) (reached_lower own own found (behind_itself own)))

  -- so a column more takes what was found further
  pub further_dangling : (before found : Option CellName) → IsFurther test before found → IsFurther test before (lower (dangling_by db change number column) found)
  further_dangling before found is =
      further_then test before found (lower (dangling_by db change number column) found) is (further_lower test (dangling_by db change number column) found dangling_passes)

  pub caught_dangling : (found : Option CellName) → ((name : CellName) → name.column.0 < number → IsWhatCame change name → test name ≡ true → is_reached found name ≡ true)
      → (name : CellName) → name.column.0 < number + 1 → IsWhatCame change name → test name ≡ true → is_reached (lower (dangling_by db change number column) found) name ≡ true
  caught_dangling found caught name within is breaks = elim (cases_lt name.column.0 number) [
    | inl before ↦ still_lower (dangling_by db change number column) found name (caught name before is breaks)
    | inr not_before ↦ dangling_reaches found name (omega arith) is breaks
  ]

-- a cell that breaks the rule is of a column that is there
pub column_within : (db : Db) (change : Change) (table : TableDef) (name : CellName) → slice_get db.schema.tables change.name.table.0 ≡ Some table → IsWhatCame change name
    → breaks_at (breaks_by Reference db) db name ≡ true → name.column.0 < length table.columns
column_within db change table name table_is is breaks =
    let it = broken (breaks_by Reference db) db name breaks in
    let tables : ◌≡◌ {A = Option TableDef} (Some it.table) (Some table) = sym it.table_is ∙ (ap (λ n. slice_get db.schema.tables n.table.0) is.row ∙ table_is) in
    let same : it.table ≡ table = cc in
    place-lt table.columns name.column.0 it.column (subst (λ t. slice_get t.columns name.column.0 ≡ Some it.column) same it.column_is)
