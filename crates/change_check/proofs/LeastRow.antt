-- The least row in which a rule finds something has the first of all that it finds.
use Rattle.std.proofs.Common.{◌≡◌, ℕ, zero, suc, ◌<◌, ◌≤◌, List, length, refl, sym, ◌∙◌, subst, add-one, arith}
use Rattle.std.specs.Prelude.{Option, None, Some, slice_get}
use Rattle.std.specs.Option.{option_and_then}
use Rattle.std.specs.declared.cmp.Ordering.TheVariants.{Less}
use Rattle.own_base.specs.Key.{key_cmp}
use Rattle.own_base.specs.declared.row_name.RowName.{RowName}
use Rattle.own_base.specs.declared.value.Key.{Key}
use Rattle.own_model.specs.declared.refusal.Refusal.{Refusal}
use Rattle.own_model.specs.declared.schema.TableDef.{TableDef}
use Rattle.own_model.specs.Db.{Db, IsOrdered, Row, key_of}
use Rattle.own_model.specs.Stored.{rows_at}
use Rattle.owner_model.specs.Joins.{row_of}
use Rattle.schema_model.proofs.Places.{at-place, place-lt}
use Rattle.owner_sets.proofs.Searched.{later_is_greater, rising_at}
use Rattle.subject_model.specs.NameOrder.{name_cmp}
use Rattle.subject_model.specs.Named.{name_of}
use Rattle.subject_model.proofs.NameOrderLemmas.{key_first, lower_first}
use Rattle.state_model.specs.Fault.{first_of}
use Rattle.state_model.proofs.NetRows.{named_at}
use Rattle.commit_check.specs.Firsts.{Rule, first_by, first_in_table}
use Rattle.commit_check.proofs.FirstLemmas.{NoneBefore, NoneBeforeTable, none_before-end, none_before-found, none_before-more, none_before-start, table-end, table-found, table-more, table-start}
use Rattle.change_check.proofs.BrokenCells.{FoundAt, found_at, named_place}

module _ (rule : Rule) (db : Db) where
  -- the first that a rule finds in the row of a name; nothing where there is no row
  abbrev pub first_at : RowName → Option Refusal
  first_at name =
      option_and_then (λ table. option_and_then (λ row. first_of (rule name.table.0 table (rows_at db.rows name.table.0) row)) (row_of db name))
      (slice_get db.schema.tables name.table.0)

  pub first_at-row : (name : RowName) (table : TableDef) (row : Row) → slice_get db.schema.tables name.table.0 ≡ Some table → row_of db name ≡ Some row
      → first_at name ≡ first_of (rule name.table.0 table (rows_at db.rows name.table.0) row)
  first_at-row name table row table_is row_is = rw (table_is, row_is) refl

  -- where it is nothing in each row that there is, it is nothing
  pub first_at-none : (name : RowName) → ((table : TableDef) (row : Row) → slice_get db.schema.tables name.table.0 ≡ Some table → row_of db name ≡ Some row
      → first_of (rule name.table.0 table (rows_at db.rows name.table.0) row) ≡ None) → first_at name ≡ None
  first_at-none name none = by _ refl
    where
      in_row : (table : TableDef) → slice_get db.schema.tables name.table.0 ≡ Some table → (o : Option Row) → row_of db name ≡ o
          → option_and_then (λ row. first_of (rule name.table.0 table (rows_at db.rows name.table.0) row)) o ≡ None
      in_row table table_is None gone = refl
      in_row table table_is (Some row) row_is = none table row table_is row_is

      by : (o : Option TableDef) → slice_get db.schema.tables name.table.0 ≡ o
          → option_and_then (λ table. option_and_then (λ row. first_of (rule name.table.0 table (rows_at db.rows name.table.0) row)) (row_of db name)) o ≡ None
      by None gone = refl
      by (Some table) table_is = in_row table table_is _ refl

  module _ (ordered : IsOrdered db) where
    module _ (number : ℕ) (table : TableDef) (table_is : slice_get db.schema.tables number ≡ Some table) where
      abbrev rows : List Row
      rows = rows_at db.rows number

      -- the row at a place
      first_at-place : (place : ℕ) (row : Row) → slice_get rows place ≡ Some row → first_at (name_of number table row) ≡ first_of (rule number table rows row)
      first_at-place place row at = first_at-row (name_of number table row) table row table_is (named_place db number table place row ordered table_is at)

      -- nothing is found before a row where nothing is in the rows before it
      rows_before : (p : ℕ) → p ≤ length rows → ((place : ℕ) (row : Row) → place < p → slice_get rows place ≡ Some row → first_at (name_of number table row) ≡ None)
          → NoneBefore (rule number table rows) rows p
      rows_before zero within none = none_before-start (rule number table rows) rows
      rows_before (suc p) within none =
          let (row, at) = at-place rows p (omega arith) in
          let before = rows_before p (omega arith) (λ place other less. none place other (omega arith)) in
          subst (NoneBefore (rule number table rows) rows) (add-one p)
          (none_before-more (rule number table rows) rows p before row at (sym (first_at-place p row at) ∙ none p row (omega arith) at))

      -- nor in a table where nothing is in its rows
      none_in_table : ((key : Key) → first_at (record { table = record { 0 = number }; key = key }) ≡ None) → first_in_table rule number table rows ≡ None
      none_in_table none =
          none_before-end (rule number table rows) rows (length rows) (rows_before (length rows) (omega arith) (λ place row less at. none (key_of table row))) (omega arith)

    -- nor before a table where nothing is in the rows of the tables before it
    tables_before : (t : ℕ) → t ≤ length db.schema.tables → ((number : ℕ) (key : Key) → number < t → first_at (record { table = record { 0 = number }; key = key }) ≡ None)
        → NoneBeforeTable rule db t
    tables_before zero within none = table-start rule db
    tables_before (suc t) within none =
        let (table, is) = at-place db.schema.tables t (omega arith) in
        let before = tables_before t (omega arith) (λ number key less. none number key (omega arith)) in
        subst (NoneBeforeTable rule db) (add-one t) (table-more rule db t before table is (none_in_table t table is (λ key. none t key (omega arith))))

    -- where nothing is in any row, the rule finds nothing
    pub none_in_rows : ((name : RowName) → first_at name ≡ None) → first_by rule db ≡ None
    none_in_rows none =
        table-end rule db (length db.schema.tables) (tables_before (length db.schema.tables) (omega arith) (λ number key less. none (record { table = record { 0 = number }; key = key })))
        (omega arith)

    -- where something is in a row, and nothing in any before it, that is the first
    pub first_in_row : (name : RowName) (table : TableDef) (row : Row) (fault : Refusal) → slice_get db.schema.tables name.table.0 ≡ Some table → row_of db name ≡ Some row
        → first_of (rule name.table.0 table (rows_at db.rows name.table.0) row) ≡ Some fault → ((other : RowName) → name_cmp other name ≡ Less → first_at other ≡ None)
        → first_by rule db ≡ Some fault
    first_in_row name table row fault table_is row_is found none =
        let number = name.table.0 in
        let own = rows number table table_is in
        let at : FoundAt table name.key own row = found_at table name.key own row (sym (named_at db name table table_is) ∙ row_is) in
        let rising = rising_at db.schema.tables db.rows number table ordered.rising table_is in
        let before = rows_before number table table_is at.place (let inside = place-lt own at.place row at.place_is in omega arith)
        (λ place other less there. none (name_of number table other)
        (key_first (name_of number table other) name refl
        (subst (λ k. key_cmp (key_of table other) k ≡ Less) at.key_is (later_is_greater table own place at.place other row rising less there at.place_is)))) in
        let in_table : first_in_table rule number table own ≡ Some fault = none_before-found (rule number table own) own at.place before row fault at.place_is found in
        let tables = tables_before number (let inside = place-lt db.schema.tables number table table_is in omega arith)
        (λ lower key less. none (record { table = record { 0 = lower }; key = key }) (lower_first (record { table = record { 0 = lower }; key = key }) name less)) in
        table-found rule db number tables table fault table_is in_table

-- the key of a row that is found by its name
pub found_key : (db : Db) (name : RowName) (table : TableDef) (row : Row) → slice_get db.schema.tables name.table.0 ≡ Some table → row_of db name ≡ Some row → key_of table row ≡ name.key
found_key db name table row table_is row_is =
    let at = found_at table name.key (rows_at db.rows name.table.0) row (sym (named_at db name table table_is) ∙ row_is) in at.key_is
