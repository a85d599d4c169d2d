-- The least cell that breaks a rule has the first fault.
use Rattle.std.proofs.Common.{◌≡◌, ℕ, zero, suc, ◌<◌, ◌≤◌, List, [], Bool, true, false, length, not, refl, ap, sym, ◌∙◌, subst, add-one, arith}
use Rattle.std.specs.Prelude.{Option, None, Some, slice_get}
use Rattle.std.specs.declared.cmp.Ordering.TheVariants.{Less}
use Rattle.std.proofs.lemmas.Option.{get_or_from_slice_get}
use Rattle.own_base.specs.declared.row_name.RowName.{RowName}
use Rattle.own_base.specs.declared.value.Key.{Key}
use Rattle.own_model.specs.declared.refusal.Refusal.{Refusal}
use Rattle.own_model.specs.declared.schema.TableDef.{TableDef}
use Rattle.own_model.specs.Db.{Db, IsOrdered, Row, key_of}
use Rattle.own_model.specs.Stored.{rows_at}
use Rattle.owner_model.specs.Joins.{row_of}
use Rattle.schema_model.proofs.Places.{at-place, place-lt}
use Rattle.state_model.specs.Fault.{ColumnValue, column_values, faults_by, first_of}
use Rattle.state_model.proofs.Consistency.{stands}
use Rattle.state_model.proofs.FaultLemmas.{column_value, column_values-at, columns_pass, each_row, length-column_values, refused}
use Rattle.commit_check.specs.Firsts.{Rule as RowRule, first_by}
use Rattle.commit_check.proofs.FirstLemmas.{NoneBefore, none_before-end, none_before-found, none_before-more, none_before-start}
use Rattle.commit_check.proofs.ReferenceLemmas.{refused-none, refused-some}
use Rattle.change_check.specs.declared.cell_name.CellName.{CellName}
use Rattle.change_check.specs.CellOrder.{cell_at, cell_cmp}
use Rattle.change_check.specs.Least.{IsLeast}
use Rattle.change_check.specs.Rule.{Breaks, breaks_at, finds, refusal_at}
use Rattle.change_check.proofs.BrokenCells.{Broken, breaks-broken, broken}
use Rattle.change_check.proofs.CellOrderLemmas.{behind_before, column_before, row_before}
use Rattle.change_check.proofs.LeastRow.{first_at, first_at-none, first_in_row, found_key, none_in_rows}

module _ (breaks : Breaks) (why : List ℕ → Key → List ℕ → Refusal) (db : Db) (ordered : IsOrdered db) where
  abbrev rule : RowRule
  rule = finds breaks why

  -- what a rule finds in a row, column by column
  abbrev refused_in : (number : ℕ) (table : TableDef) (row : Row) → ColumnValue → List Refusal
  refused_in number table row = refused (breaks table (rows_at db.rows number) row) (λ held. why table.name (key_of table row) held.column.name)

  module _ (name : RowName) (table : TableDef) (row : Row) (table_is : slice_get db.schema.tables name.table.0 ≡ Some table) (row_is : row_of db name ≡ Some row) where
    abbrev rows : List Row
    rows = rows_at db.rows name.table.0

    -- nothing is found before a column where no cell before it breaks the rule
    columns_before : (n : ℕ) → n ≤ length table.columns → ((m : ℕ) → m < n → breaks_at breaks db (cell_at name.table.0 m name.key) ≡ false)
        → NoneBefore (refused_in name.table.0 table row) (column_values table row) n
    columns_before zero within passes = none_before-start (refused_in name.table.0 table row) (column_values table row)
    columns_before (suc n) within passes =
        let (column, column_is) = at-place table.columns n (omega arith) in
        let passed : breaks table rows row (column_value row n column) ≡ false =
        sym (breaks-broken breaks db (cell_at name.table.0 n name.key) table row column table_is row_is column_is) ∙ passes n (omega arith) in
        let before = columns_before n (omega arith) (λ m less. passes m (omega arith)) in
        subst (NoneBefore (refused_in name.table.0 table row) (column_values table row)) (add-one n)
        (none_before-more (refused_in name.table.0 table row) (column_values table row) n before (column_value row n column) (column_values-at table row n column column_is)
        (refused-none (breaks table rows row) (λ held. why table.name (key_of table row) held.column.name) (column_value row n column) passed))

    -- nothing is found in a row of which no cell does
    none_in_columns : ((m : ℕ) → breaks_at breaks db (cell_at name.table.0 m name.key) ≡ false) → first_of (rule name.table.0 table rows row) ≡ None
    none_in_columns passes =
        let before = columns_before (length table.columns) (omega arith) (λ m less. passes m) in
        none_before-end (refused_in name.table.0 table row) (column_values table row) (length table.columns) before
        (subst (λ n. n ≤ length table.columns) (sym (length-column_values table row)) (omega arith))

  -- nor in the row of a name of which no cell does
  passes_at : (name : RowName) → ((m : ℕ) → breaks_at breaks db (cell_at name.table.0 m name.key) ≡ false) → first_at rule db name ≡ None
  passes_at name passes = first_at-none rule db name (λ table row table_is row_is. none_in_columns name table row table_is row_is passes)

  -- where no cell breaks the rule it finds nothing
  none_found : ((name : CellName) → breaks_at breaks db name ≡ false) → first_by rule db ≡ None
  none_found passes = none_in_rows rule db ordered (λ name. passes_at name (λ m. passes (cell_at name.table.0 m name.key)))

  -- where one does, and none before it, the rule finds that first
  first_found : (name : CellName) (is : Broken breaks db name) → ((other : CellName) → cell_cmp other name ≡ Less → breaks_at breaks db other ≡ false)
      → first_by rule db ≡ Some (why is.table.name name.row.key is.column.name)
  first_found name is passes =
      let number = name.row.table.0 in
      let own = rows name.row is.table is.row is.table_is is.row_is in
      let fault = why is.table.name (key_of is.table is.row) is.column.name in
      let columns = columns_before name.row is.table is.row is.table_is is.row_is name.column.0
      (let inside = place-lt is.table.columns name.column.0 is.column is.column_is in omega arith)
      (λ m less. passes (cell_at number m name.row.key) (column_before number m name.column.0 name.row.key less)) in
      let in_row : first_of (rule number is.table own is.row) ≡ Some fault =
      none_before-found (refused_in number is.table is.row) (column_values is.table is.row) name.column.0 columns (column_value is.row name.column.0 is.column) fault
      (column_values-at is.table is.row name.column.0 is.column is.column_is)
      (refused-some (breaks is.table own is.row) (λ held. why is.table.name (key_of is.table is.row) held.column.name) (column_value is.row name.column.0 is.column) is.broke) in
      first_in_row rule db ordered name.row is.table is.row fault is.table_is is.row_is in_row
      (λ other before. passes_at other (λ m. passes (cell_at other.table.0 m other.key) (row_before (cell_at other.table.0 m other.key) name before)))
      ∙ ap (λ k. Some (why is.table.name k is.column.name)) (found_key db name.row is.table is.row is.table_is is.row_is)

  -- where a rule finds nothing, no cell breaks it
  pub none_broken : faults_by rule db ≡ [] → (name : CellName) → breaks_at breaks db name ≡ true → ⊥
  none_broken none name broke =
      let it = broken breaks db name broke in
      let (table, stand) = stands db name.row it.row it.row_is in
      let tables : ◌≡◌ {A = Option TableDef} (Some it.table) (Some table) = sym it.table_is ∙ stand.table_is in
      let same : it.table ≡ table = cc in
      let are : rows_at db.rows name.row.table.0 ≡ stand.rows = get_or_from_slice_get db.rows name.row.table.0 stand.rows [] stand.rows_are in
      let column_is : slice_get table.columns name.column.0 ≡ Some it.column = subst (λ t. slice_get t.columns name.column.0 ≡ Some it.column) same it.column_is in
      let passes = columns_pass (breaks table stand.rows it.row) (λ held. why table.name (key_of table it.row) held.column.name) it.row table
      (each_row rule db none name.row.table.0 table stand.rows it.row stand.table_is stand.rows_are stand.among) name.column.0 it.column column_is in
      let broke_there : breaks table stand.rows it.row (column_value it.row name.column.0 it.column) ≡ true =
      subst (λ own. breaks table own it.row (column_value it.row name.column.0 it.column) ≡ true) are
      (subst (λ t. breaks t (rows_at db.rows name.row.table.0) it.row (column_value it.row name.column.0 it.column) ≡ true) same it.broke) in
      let never : true ≡ false = sym broke_there ∙ passes in
      absurd (cc)

  false_from : (b : Bool) → (b ≡ true → ⊥) → b ≡ false
  false_from true never = absurd (never refl)
  false_from false never = refl

  -- The first that a rule finds is what is refused at the least cell that breaks it.
  pub first_of_least : (least : Option CellName) → IsLeast (breaks_at breaks db) least → first_of (faults_by rule db) ≡ refusal_at why db.schema least
  first_of_least None is = none_found (λ name. false_from _ (λ breaks. let never : false ≡ true = is.reached name breaks in cc))
  first_of_least (Some name) is =
      let it = broken breaks db name is.own in
      first_found name it (λ other before. false_from _ (λ breaks.
      let behind = behind_before other name before in
      let never : false ≡ true = sym (ap not behind) ∙ is.reached other breaks in cc))
      ∙ sym (rw (it.table_is, it.column_is) refl)
