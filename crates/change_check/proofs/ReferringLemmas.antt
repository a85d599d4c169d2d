-- Who refers to a row that isn't there.
use Rattle.std.proofs.Common.{◌≡◌, ℕ, ◌+◌, ◌<◌, List, [], ◌∷◌, Bool, true, false, cond, length, inl, inr, refl, ap, sym, ◌∙◌, subst, arith}
use Rattle.std.specs.Prelude.{◌==◌, Contains, IfSome, Option, None, Some, is_some, slice_get}
use Rattle.std.specs.List.Sorted.{IsStrictlySortedBy}
use Rattle.std.specs.Option.{option_map_or}
use Rattle.std.proofs.lemmas.Bool.{cases_lt, eqb-true}
use Rattle.std.proofs.lemmas.Option.{get_or_from_slice_get, slice_get_within}
use Rattle.own_base.specs.Key.{key_cmp}
use Rattle.own_base.specs.declared.number.TableNo.{TableNo}
use Rattle.own_base.specs.declared.row_name.RowName.{RowName}
use Rattle.own_base.specs.declared.value.Key.{Key}
use Rattle.own_model.specs.declared.schema.Column.{Column}
use Rattle.own_model.specs.declared.schema.RefKind.{RefKind}
use Rattle.own_model.specs.declared.schema.TableDef.{TableDef}
use Rattle.own_model.specs.Db.{Db, IsOrdered, IsRising, Row}
use Rattle.own_model.specs.Stored.{rows_at}
use Rattle.owner_model.specs.Joins.{row_of}
use Rattle.schema_model.proofs.Places.{place-lt}
use Rattle.owner_sets.proofs.Searched.{rising_at}
use Rattle.subject_model.specs.Named.{is_there}
use Rattle.subject_model.proofs.Members.{contains_here, contains_none}
use Rattle.state_model.proofs.NetRows.{named_at}
use Rattle.link_model.specs.Holds.{holders, holders_at}
use Rattle.change_check.specs.declared.cell_name.CellName.{CellName}
use Rattle.change_check.specs.declared.refusing.Rule.TheVariants.{Reference}
use Rattle.change_check.specs.CellOrder.{cell_at}
use Rattle.change_check.specs.Dangling.{RefersTo, referring_to, refers_to}
use Rattle.change_check.specs.Holders.{first_cell}
use Rattle.change_check.specs.Least.{IsFurther, is_reached, lower}
use Rattle.change_check.specs.Rule.{breaks_at, breaks_by}
use Rattle.change_check.proofs.HeldLemmas.{holds_key}
use Rattle.change_check.proofs.BrokenCells.{breaks-broken, found_at, named_place}
use Rattle.change_check.proofs.LeastLemmas.{further_lower, further_then, reached_lower, still_lower}
use Rattle.change_check.proofs.LinkLemmas.{none_named}
use Rattle.change_check.proofs.HolderRows.{first_not_behind, holder_row, holders_in, row_holder, some_holding, sorted_holders}

-- the link of a column that refers to a table
record Link (table : TableNo) (column : Column) : Type 0 where
  link : RefKind × TableNo
  refers : column.refers ≡ Some link
  same : link.1 ≡ table

link_of : (table : TableNo) (column : Column) → refers_to table column ≡ true → Link table column
link_of table column is = by column.refers refl is
  where
    numbered : ℕ → TableNo
    numbered number = record { 0 = number }

    by : (o : Option (RefKind × TableNo)) → column.refers ≡ o → option_map_or (λ (link : RefKind × TableNo). link.1.0 == table.0) o false ≡ true → Link table column
    by None refers to = let never : false ≡ true = to in cc
    by (Some link) refers to = record { link = link; refers = refers; same = ap (λ n. record { 0 = n }) (eqb-true link.1.0 table.0 to) }

module _ (db : Db) (ordered : IsOrdered db) (to : RowName) (gone : row_of db to ≡ None) (number : ℕ) (table : TableDef) (table_is : slice_get db.schema.tables number ≡ Some table)
    (place : ℕ) (column : Column) (column_is : slice_get table.columns place ≡ Some column) where
  abbrev test : CellName → Bool
  test = breaks_at (breaks_by Reference db) db

  abbrev rows : List Row
  rows = rows_at db.rows number

  rising : IsRising table rows
  rising = rising_at db.schema.tables db.rows number table ordered.rising table_is

  -- the first who refers to it breaks the rule
  first_breaks : (first : Key) (more : List Key) → refers_to to.table column ≡ true → holders table rows place to.key ≡ first ∷ more → test (cell_at number place first) ≡ true
  first_breaks first more refers are =
      let own = holder_row table rows place to.key first (subst (λ keys. Contains keys first) (sym are) (contains_here first more)) in
      let link = link_of to.table column refers in
      let none : is_there db (record { table = link.link.1; key = to.key }) ≡ false =
      ap (λ (t : TableNo). is_there db (record { table = t; key = to.key })) link.same ∙ ap is_some gone in
      let found = named_place db number table own.place own.row ordered table_is own.place_is in
      let named : row_of db (cell_at number place first).row ≡ Some own.row = subst (λ k. row_of db (cell_at number place k).row ≡ Some own.row) own.key_is found in
      breaks-broken (breaks_by Reference db) db (cell_at number place first) table own.row column table_is named column_is
      ∙ none_named db own.row place column link.link to.key link.refers (holds_key place to.key own.row own.holds) none

  pub referring_passes : IfSome (referring_to db to number place column) (λ name. test name ≡ true)
  referring_passes = by (refers_to to.table column) refl
    where
      of_keys : refers_to to.table column ≡ true → (keys : List Key) → holders table rows place to.key ≡ keys → IfSome (first_cell number place keys) (λ name. test name ≡ true)
      of_keys refers [] are = tt
      of_keys refers (first ∷ more) are = first_breaks first more refers are

      by : (b : Bool) → refers_to to.table column ≡ b → IfSome (cond b (first_cell number place (holders_at db number place to.key)) None) (λ name. test name ≡ true)
      by true refers = of_keys refers (holders_at db number place to.key) (sym (holders_in db number place to.key table table_is))
      by false refers = tt

  first_reached : (found : Option CellName) (key : Key) (keys : List Key) → IsStrictlySortedBy key_cmp keys → Contains keys key
      → is_reached (lower (first_cell number place keys) found) (cell_at number place key) ≡ true
  first_reached found key [] sorted among = absurd (contains_none key among)
  first_reached found key (first ∷ more) sorted among =
      reached_lower (cell_at number place first) (cell_at number place key) found (first_not_behind number place first key more sorted among)

  reaches_at : (found : Option CellName) (key : Key) → RefersTo db to (cell_at number place key) → is_reached (lower (referring_to db to number place column) found) (cell_at number place key) ≡ true
  reaches_at found key is =
      let name = cell_at number place key in
      let tables : ◌≡◌ {A = Option TableDef} (Some is.table) (Some table) = sym is.table_is ∙ table_is in
      let same_table : is.table ≡ table = cc in
      let columns : ◌≡◌ {A = Option Column} (Some is.column) (Some column) = sym is.column_is ∙ (ap (λ (t : TableDef). slice_get t.columns place) same_table ∙ column_is) in
      let same_column : is.column ≡ column = cc in
      let refers : refers_to to.table column ≡ true = ap (refers_to to.table) (sym same_column) ∙ is.refers in
      let (row, row_is, holding) = some_holding place to.key (row_of db name.row) is.holds in
      let at = found_at table key rows row (sym (named_at db name.row table table_is) ∙ row_is) in
      let among = row_holder table rows place to.key row
      (at.place, slice_get_within rows at.place row at.place_is, get_or_from_slice_get rows at.place row row at.place_is) holding in
      let finds : referring_to db to number place column ≡ first_cell number place (holders table rows place to.key) =
      ap (λ b. cond b (first_cell number place (holders_at db number place to.key)) None) refers ∙ ap (first_cell number place) (holders_in db number place to.key table table_is) in
      subst (λ o. is_reached (lower o found) name ≡ true) (sym finds)
      (first_reached found key (holders table rows place to.key) (sorted_holders table rows place to.key rising) (subst (Contains (holders table rows place to.key)) at.key_is among))

  -- and it reaches the others
  pub referring_reaches : (found : Option CellName) (name : CellName) → name.row.table.0 ≡ number → name.column.0 ≡ place → RefersTo db to name
      → is_reached (lower (referring_to db to number place column) found) name ≡ true
  referring_reaches found name own here is =
      let same : cell_at number place name.row.key ≡ name = ap (λ t. cell_at t place name.row.key) (sym own) ∙ ap (λ n. cell_at name.row.table.0 n name.row.key) (sym here) in
      let P : CellName → Type 0 = λ other. RefersTo db to other → is_reached (lower (referring_to db to number place column) found) other ≡ true in
      subst P same (reaches_at found name.row.key) is

  -- so a column more takes what was found further
  pub further_referring : (before found : Option CellName) → IsFurther test before found → IsFurther test before (lower (referring_to db to number place column) found)
  further_referring before found is =
      further_then test before found (lower (referring_to db to number place column) found) is (further_lower test (referring_to db to number place column) found referring_passes)

  pub caught_referring : (found : Option CellName) → ((name : CellName) → name.row.table.0 ≡ number → name.column.0 < place → RefersTo db to name → is_reached found name ≡ true)
      → (name : CellName) → name.row.table.0 ≡ number → name.column.0 < place + 1 → RefersTo db to name → is_reached (lower (referring_to db to number place column) found) name ≡ true
  caught_referring found caught name own within is = elim (cases_lt name.column.0 place) [
    | inl before ↦ still_lower (referring_to db to number place column) found name (caught name own before is)
    | inr not_before ↦ referring_reaches found name own (omega arith) is
  ]

-- a cell that refers to a row is of a column that is there
pub column_referring : (db : Db) (to : RowName) (number : ℕ) (table : TableDef) (name : CellName) → slice_get db.schema.tables number ≡ Some table → name.row.table.0 ≡ number → RefersTo db to name
    → name.column.0 < length table.columns
column_referring db to number table name table_is own is =
    let tables : ◌≡◌ {A = Option TableDef} (Some is.table) (Some table) = sym is.table_is ∙ (ap (slice_get db.schema.tables) own ∙ table_is) in
    let same : is.table ≡ table = cc in
    place-lt table.columns name.column.0 is.column (subst (λ t. slice_get t.columns name.column.0 ≡ Some is.column) same is.column_is)
