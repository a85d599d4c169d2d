-- What a row holds in a column, by the column's number. No fault of a kind is no fault of any row, and of any column.
use Rattle.std.proofs.Common.{◌≡◌, ◌∙◌, ℕ, zero, suc, ◌+◌, List, [], ◌∷◌, length, Bool, true, false, ap, refl, subst, arith}
use Rattle.std.specs.Prelude.{Contains, Some, flat_map, slice_get, if◌then◌else◌}
use Rattle.std.specs.List.{AllByRecursion}
use Rattle.own_model.specs.declared.refusal.Refusal.{Refusal}
use Rattle.own_model.specs.declared.schema.Column.{Column}
use Rattle.own_model.specs.declared.schema.TableDef.{TableDef}
use Rattle.own_model.specs.Db.{Db, Row}
use Rattle.query_model.specs.Truth.{cell}
use Rattle.schema_model.proofs.Places.{append-none, flat_map-none}
use Rattle.subject_model.proofs.Members.{all_contained, all_from_contained}
use Rattle.state_model.specs.Fault.{ColumnValue, faults_by, column_values, over_rows}

-- what a row holds in one column
abbrev pub column_value : Row → ℕ → Column → ColumnValue
column_value row number column = record { number = number; column = column; value = cell row number }

-- and in columns that are numbered from here on
values_from : Row → ℕ → List Column → List ColumnValue
values_from row number [] = []
values_from row number (column ∷ columns) = column_value row number column ∷ values_from row (number + 1) columns

at_from : (row : Row) (number : ℕ) (columns : List Column) (place : ℕ) (column : Column) → slice_get columns place ≡ Some column
    → slice_get (values_from row number columns) place ≡ Some (column_value row (number + place) column)
unfolding values_from
at_from row number [] place column is = cc
at_from row number (first ∷ columns) zero column is =
    let same : first ≡ column = cc in
    let n : number ≡ number + zero = omega arith in
    ap (λ c. Some (column_value row number c)) same ∙ ap (λ n. Some (column_value row n column)) n
at_from row number (first ∷ columns) (suc place) column is =
    let n : number + 1 + place ≡ number + suc place = omega arith in
    at_from row (number + 1) columns place column is ∙ ap (λ n. Some (column_value row n column)) n

length_from : (row : Row) (number : ℕ) (columns : List Column) → length (values_from row number columns) ≡ length columns
unfolding values_from
length_from row number [] = refl
length_from row number (first ∷ columns) = ap suc (length_from row (number + 1) columns)

-- it stands at the column's number among all that the row holds
pub column_values-at : (table : TableDef) (row : Row) (number : ℕ) (column : Column) → slice_get table.columns number ≡ Some column → slice_get (column_values table row) number ≡ Some (column_value row number column)
unfolding values_from
column_values-at table row number column is =
    let n : 0 + number ≡ number = omega arith in
    at_from row 0 table.columns number column is ∙ ap (λ n. Some (column_value row n column)) n

-- and there is one for each column
pub length-column_values : (table : TableDef) (row : Row) → length (column_values table row) ≡ length table.columns
unfolding values_from
length-column_values table row = length_from row 0 table.columns

-- what is refused of a value that a row holds
abbrev pub refused : (ColumnValue → Bool) → (ColumnValue → Refusal) → ColumnValue → List Refusal
refused breaks why one = if breaks one then why one ∷ [] else []

module _ (breaks : ColumnValue → Bool) (why : ColumnValue → Refusal) (row : Row) where
  refused_none : (one : ColumnValue) (b : Bool) → breaks one ≡ b → refused breaks why one ≡ [] → breaks one ≡ false
  refused_none one true is none = let never : ◌≡◌ {A = List Refusal} (why one ∷ []) [] = rw is at none in cc
  refused_none one false is none = is

  values_none : (number : ℕ) (columns : List Column) → flat_map (refused breaks why) (values_from row number columns) ≡ []
      → (place : ℕ) (column : Column) → slice_get columns place ≡ Some column → breaks (column_value row (number + place) column) ≡ false
  unfolding values_from
  values_none number [] none place column is = cc
  values_none number (first ∷ columns) none zero column is =
      let both = append-none (refused breaks why (column_value row number first)) (flat_map (refused breaks why) (values_from row (number + 1) columns)) none in
      let same : first ≡ column = cc in
      let n : number ≡ number + zero = omega arith in
      subst (λ n. breaks (column_value row n column) ≡ false) n (subst (λ c. breaks (column_value row number c) ≡ false) same (refused_none (column_value row number first) _ refl both.0))
  values_none number (first ∷ columns) none (suc place) column is =
      let both = append-none (refused breaks why (column_value row number first)) (flat_map (refused breaks why) (values_from row (number + 1) columns)) none in
      let n : number + 1 + place ≡ number + suc place = omega arith in
      subst (λ n. breaks (column_value row n column) ≡ false) n (values_none (number + 1) columns both.1 place column is)

  none_valued : (number : ℕ) (columns : List Column) → ((place : ℕ) (column : Column) → slice_get columns place ≡ Some column → breaks (column_value row (number + place) column) ≡ false)
      → flat_map (refused breaks why) (values_from row number columns) ≡ []
  unfolding values_from
  none_valued number [] each = refl
  none_valued number (first ∷ columns) each =
      let n : number + 0 ≡ number = omega arith in
      let own : breaks (column_value row number first) ≡ false = subst (λ n. breaks (column_value row n first) ≡ false) n (each 0 first refl) in
      rw own (none_valued (number + 1) columns (λ place column is.
      let n : number + suc place ≡ number + 1 + place = omega arith in
      subst (λ n. breaks (column_value row n column) ≡ false) n (each (suc place) column is)))

  -- where nothing is refused of what a row holds, nothing is wrong in any column
  pub columns_pass : (table : TableDef) → flat_map (refused breaks why) (column_values table row) ≡ [] → (number : ℕ) (column : Column) → slice_get table.columns number ≡ Some column
      → breaks (column_value row number column) ≡ false
  unfolding values_from
  columns_pass table none number column is =
      let n : 0 + number ≡ number = omega arith in
      subst (λ n. breaks (column_value row n column) ≡ false) n (values_none 0 table.columns none number column is)

  -- and back
  pub pass_columns : (table : TableDef) → ((number : ℕ) (column : Column) → slice_get table.columns number ≡ Some column → breaks (column_value row number column) ≡ false)
      → flat_map (refused breaks why) (column_values table row) ≡ []
  unfolding values_from
  pass_columns table each =
      none_valued 0 table.columns (λ number column is. let n : number ≡ 0 + number = omega arith in subst (λ n. breaks (column_value row n column) ≡ false) n (each number column is))

none_flat_map : {X Y : Type 0} (f : X → List Y) (xs : List X) → AllByRecursion (λ x. f x ≡ []) xs → flat_map f xs ≡ []
none_flat_map f [] all = refl
none_flat_map f (x ∷ xs) all = rw (all.0, none_flat_map f xs all.1) refl

module _ (rule : ℕ → TableDef → List Row → Row → List Refusal) where
  rows_none : (number : ℕ) (tables : List TableDef) (rows : List (List Row)) → over_rows rule number tables rows ≡ [] → (place : ℕ) (table : TableDef) (own : List Row)
      → slice_get tables place ≡ Some table → slice_get rows place ≡ Some own → AllByRecursion (λ row. rule (number + place) table own row ≡ []) own
  unfolding over_rows
  rows_none number [] rows none place table own is there = cc
  rows_none number (first ∷ tables) [] none place table own is there = cc
  rows_none number (first ∷ tables) (one ∷ rows) none zero table own is there =
      let both = append-none (flat_map (rule number first one) one) (over_rows rule (number + 1) tables rows) none in
      let same : first ≡ table = cc in
      let list : one ≡ own = cc in
      let n : number ≡ number + zero = omega arith in
      let all = flat_map-none (rule number first one) one both.0 in
      subst (λ n. AllByRecursion (λ row. rule n table own row ≡ []) own) n
      (subst (λ t. AllByRecursion (λ row. rule number t own row ≡ []) own) same (subst (λ o. AllByRecursion (λ row. rule number first o row ≡ []) o) list all))
  rows_none number (first ∷ tables) (one ∷ rows) none (suc place) table own is there =
      let both = append-none (flat_map (rule number first one) one) (over_rows rule (number + 1) tables rows) none in
      let n : number + 1 + place ≡ number + suc place = omega arith in
      subst (λ n. AllByRecursion (λ row. rule n table own row ≡ []) own) n (rows_none (number + 1) tables rows both.1 place table own is there)

  none_rows : (number : ℕ) (tables : List TableDef) (rows : List (List Row))
      → ((place : ℕ) (table : TableDef) (own : List Row) → slice_get tables place ≡ Some table → slice_get rows place ≡ Some own → AllByRecursion (λ row. rule (number + place) table own row ≡ []) own)
      → over_rows rule number tables rows ≡ []
  unfolding over_rows
  none_rows number [] rows each = refl
  none_rows number (first ∷ tables) [] each = refl
  none_rows number (first ∷ tables) (one ∷ rows) each =
      let n : number + 0 ≡ number = omega arith in
      let own = none_flat_map (rule number first one) one (subst (λ n. AllByRecursion (λ row. rule n first one row ≡ []) one) n (each 0 first one refl refl)) in
      let later = none_rows (number + 1) tables rows (λ place table own is there.
      let n : number + suc place ≡ number + 1 + place = omega arith in
      subst (λ n. AllByRecursion (λ row. rule n table own row ≡ []) own) n (each (suc place) table own is there)) in
      rw (own, later) refl

  -- where a rule finds nothing, it finds nothing in any row
  pub each_row : (db : Db) → faults_by rule db ≡ [] → (number : ℕ) (table : TableDef) (rows : List Row) (row : Row) → slice_get db.schema.tables number ≡ Some table
      → slice_get db.rows number ≡ Some rows → Contains rows row → rule number table rows row ≡ []
  each_row db none number table rows row is there among =
      let n : 0 + number ≡ number = omega arith in
      subst (λ n. rule n table rows row ≡ []) n
      (all_contained (λ row. rule (0 + number) table rows row ≡ []) rows row (rows_none 0 db.schema.tables db.rows none number table rows is there) among)

  -- and back
  pub row_each : (db : Db) → ((number : ℕ) (table : TableDef) (rows : List Row) (row : Row) → slice_get db.schema.tables number ≡ Some table → slice_get db.rows number ≡ Some rows
      → Contains rows row → rule number table rows row ≡ []) → faults_by rule db ≡ []
  row_each db each =
      none_rows 0 db.schema.tables db.rows (λ number table rows is there.
      let n : number ≡ 0 + number = omega arith in
      all_from_contained _ rows (λ row among. subst (λ n. rule n table rows row ≡ []) n (each number table rows row is there among)))
