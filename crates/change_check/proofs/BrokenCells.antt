-- What stands in a cell that breaks a rule.
use Rattle.std.proofs.Common.{◌≡◌, ℕ, zero, suc, List, [], ◌∷◌, Bool, true, false, cond, refl, ap, ◌∙◌, subst, arith}
use Rattle.std.specs.Prelude.{Option, None, Some, find, slice_get}
use Rattle.std.specs.Option.{option_map_or}
use Rattle.std.specs.List.Sorted.{IsStrictlySortedBy}
use Rattle.own_base.specs.declared.value.Key.{Key}
use Rattle.own_model.specs.declared.schema.Column.{Column}
use Rattle.own_model.specs.declared.schema.TableDef.{TableDef}
use Rattle.own_model.specs.Db.{Db, IsOrdered, IsRising, Row, key_of}
use Rattle.own_model.specs.Stored.{has_key, is_equal, rows_at}
use Rattle.owner_model.specs.Joins.{row_of}
use Rattle.owner_sets.proofs.Searched.{later_is_greater, rising_at}
use Rattle.subject_model.proofs.NamedLemmas.{key_is, one_key}
use Rattle.state_model.proofs.FaultLemmas.{column_value}
use Rattle.state_model.proofs.NetRows.{named_at}
use Rattle.change_check.specs.declared.cell_name.CellName.{CellName}
use Rattle.change_check.specs.Rule.{Breaks, breaks_at}

-- a row is found by its key
pub by_key : (table : TableDef) (rows : List Row) (place : ℕ) (row : Row) → IsRising table rows → slice_get rows place ≡ Some row → find (has_key table (key_of table row)) rows ≡ Some row
unfolding IsStrictlySortedBy
by_key table [] place row rising at = let never : ◌≡◌ {A = Option Row} None (Some row) = at in cc
by_key table (first ∷ rows) zero row rising at =
    let same : first ≡ row = cc in
    let own : has_key table (key_of table row) first ≡ true = subst (λ r. has_key table (key_of table r) first ≡ true) same (key_is (key_of table first)) in
    rw own at
by_key table (first ∷ rows) (suc place) row rising at =
    let below = later_is_greater table (first ∷ rows) zero (suc place) first row rising (omega arith) refl at in
    let other : has_key table (key_of table row) first ≡ false = ap is_equal below in
    rw other (by_key table rows place row rising.1 at)

-- and what is found stands at a place
pub record FoundAt (table : TableDef) (key : Key) (rows : List Row) (row : Row) : Type 0 where
  pub place : ℕ
  pub place_is : slice_get rows place ≡ Some row
  pub key_is : key_of table row ≡ key

pub found_at : (table : TableDef) (key : Key) (rows : List Row) (row : Row) → find (has_key table key) rows ≡ Some row → FoundAt table key rows row
found_at table key [] row is = let never : ◌≡◌ {A = Option Row} None (Some row) = is in cc
found_at table key (first ∷ rows) row is = by (found_at table key rows row) (has_key table key first) refl is
  where
    by : (find (has_key table key) rows ≡ Some row → FoundAt table key rows row) → (b : Bool) → has_key table key first ≡ b
        → cond b (Some first) (find (has_key table key) rows) ≡ Some row → FoundAt table key (first ∷ rows) row
    by more true has here =
        let same : first ≡ row = cc in
        record { place = 0; place_is = here; key_is = subst (λ r. key_of table r ≡ key) same (one_key _ _ has) }
    by more false fails there = let later = more there in record { place = suc later.place; place_is = later.place_is; key_is = later.key_is }

-- what stands in a cell that breaks a rule
pub record Broken (breaks : Breaks) (db : Db) (name : CellName) : Type 0 where
  pub table : TableDef
  pub table_is : slice_get db.schema.tables name.row.table.0 ≡ Some table
  pub row : Row
  pub row_is : row_of db name.row ≡ Some row
  pub column : Column
  pub column_is : slice_get table.columns name.column.0 ≡ Some column
  pub broke : breaks table (rows_at db.rows name.row.table.0) row (column_value row name.column.0 column) ≡ true

pub broken : (breaks : Breaks) (db : Db) (name : CellName) → breaks_at breaks db name ≡ true → Broken breaks db name
broken breaks db name is = by _ refl is
  where
    in_column : (table : TableDef) (row : Row) → slice_get db.schema.tables name.row.table.0 ≡ Some table → row_of db name.row ≡ Some row
        → (o : Option Column) → slice_get table.columns name.column.0 ≡ o
        → option_map_or (λ column. breaks table (rows_at db.rows name.row.table.0) row (column_value row name.column.0 column)) o false ≡ true → Broken breaks db name
    in_column table row table_is row_is None none broke = let never : false ≡ true = broke in cc
    in_column table row table_is row_is (Some column) column_is broke =
        record { table = table; table_is = table_is; row = row; row_is = row_is; column = column; column_is = column_is; broke = broke }

    in_row : (table : TableDef) → slice_get db.schema.tables name.row.table.0 ≡ Some table → (o : Option Row) → row_of db name.row ≡ o
        → option_map_or (λ row. option_map_or (λ column. breaks table (rows_at db.rows name.row.table.0) row (column_value row name.column.0 column))
        (slice_get table.columns name.column.0) false) o false ≡ true → Broken breaks db name
    in_row table table_is None none broke = let never : false ≡ true = broke in cc
    in_row table table_is (Some row) row_is broke = in_column table row table_is row_is _ refl broke

    by : (o : Option TableDef) → slice_get db.schema.tables name.row.table.0 ≡ o
        → option_map_or (λ table. option_map_or (λ row. option_map_or (λ column. breaks table (rows_at db.rows name.row.table.0) row (column_value row name.column.0 column))
        (slice_get table.columns name.column.0) false) (row_of db name.row) false) o false ≡ true → Broken breaks db name
    by None none broke = let never : false ≡ true = broke in cc
    by (Some table) table_is broke = in_row table table_is _ refl broke

-- and back
pub breaks-broken : (breaks : Breaks) (db : Db) (name : CellName) (table : TableDef) (row : Row) (column : Column) → slice_get db.schema.tables name.row.table.0 ≡ Some table
    → row_of db name.row ≡ Some row → slice_get table.columns name.column.0 ≡ Some column
    → breaks_at breaks db name ≡ breaks table (rows_at db.rows name.row.table.0) row (column_value row name.column.0 column)
breaks-broken breaks db name table row column table_is row_is column_is = rw (table_is, row_is, column_is) refl

-- a row at a place of its table is found by its name
pub named_place : (db : Db) (number : ℕ) (table : TableDef) (place : ℕ) (row : Row) → IsOrdered db → slice_get db.schema.tables number ≡ Some table
    → slice_get (rows_at db.rows number) place ≡ Some row → row_of db (record { table = record { 0 = number }; key = key_of table row }) ≡ Some row
named_place db number table place row ordered table_is at =
    named_at db (record { table = record { 0 = number }; key = key_of table row }) table table_is
    ∙ by_key table (rows_at db.rows number) place row (rising_at db.schema.tables db.rows number table ordered.rising table_is) at
