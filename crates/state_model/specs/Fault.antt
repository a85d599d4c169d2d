-- What is wrong with a database as a whole.
use Rattle.std.specs.Prelude.{ℕ, ◌+◌, List, [], ◌∷◌, ◌++◌, Bool, true, false, not, ◌&&◌, Option, None, Some, flat_map, nat_lt, if◌then◌else◌}
use Rattle.std.specs.List.{list_any}
use Rattle.own_base.specs.declared.number.TableNo.{TableNo}
use Rattle.own_base.specs.declared.value.Key.{Key}
use Rattle.own_base.specs.declared.value.Value.{Value}
use Rattle.own_model.specs.declared.limit.LimitName.TheVariants as limit
use Rattle.own_model.specs.declared.limit.TheConstants.{STORE_ROWS, STORE_WEIGHT}
use Rattle.own_model.specs.declared.refusal.Refusal.{Refusal}
use Rattle.own_model.specs.declared.refusal.Refusal.TheVariants.{Limit, Owner, Reference, Unique}
use Rattle.own_model.specs.declared.schema.Column.{Column}
use Rattle.own_model.specs.declared.schema.RefKind.{RefKind}
use Rattle.own_model.specs.declared.schema.TableDef.{TableDef}
use Rattle.own_model.specs.Db.{Db, Row, key_of}
use Rattle.own_model.specs.Stored.{has_key}
use Rattle.schema_model.specs.Tables.{is_private}
use Rattle.query_model.specs.Footprints.{literal_key}
use Rattle.query_model.specs.Truth.{cell, is_null}
use Rattle.subject_model.specs.Named.{is_there, name_of}
use Rattle.subject_model.specs.Owners.{has_owner}
use Rattle.state_model.specs.Same.{is_same_value}
use Rattle.state_model.specs.Weight.{row_count, weight}

-- a column of a table with its number, and the value that a row has there
pub record ColumnValue : Type 0 where
  pub number : ℕ
  pub column : Column
  pub value : Value

-- what a row has in each of its table's columns, by number
abbrev pub column_values : TableDef → Row → List ColumnValue
column_values table row = values_from 0 table.columns
  where
    values_from : ℕ → List Column → List ColumnValue
    values_from number [] = []
    values_from number (column ∷ columns) = record { number = number; column = column; value = cell row number } ∷ values_from (number + 1) columns

-- what a rule finds in the rows of each table, by table, then key
unfoldable pub over_rows : (ℕ → TableDef → List Row → Row → List Refusal) → ℕ → List TableDef → List (List Row) → List Refusal
over_rows rule number [] rows = []
over_rows rule number (table ∷ tables) [] = []
over_rows rule number (table ∷ tables) (rows ∷ rest) = flat_map (rule number table rows) rows ++ over_rows rule (number + 1) tables rest

abbrev pub faults_by : (ℕ → TableDef → List Row → Row → List Refusal) → Db → List Refusal
faults_by rule db = over_rows rule 0 db.schema.tables db.rows

-- whether another row of the table holds a value in a column
abbrev pub is_shared : TableDef → List Row → Key → ℕ → Value → Bool
is_shared table rows key number value = list_any (λ other. not (has_key table key other) && is_same_value (cell other number) value) rows

-- a UNIQUE column whose value, which isn't NULL, another row of the table holds too
abbrev pub breaks_unique : TableDef → List Row → Row → ColumnValue → Bool
breaks_unique table rows row one = (one.column.unique && not (is_null one.value)) && is_shared table rows (key_of table row) one.number one.value

abbrev pub unique_rule : ℕ → TableDef → List Row → Row → List Refusal
unique_rule number table rows row =
    flat_map (λ one. if breaks_unique table rows row one then Unique table.name (key_of table row) one.column.name ∷ [] else []) (column_values table row)

-- whether there is a row of a table with this key; without a key there is nothing to be there
abbrev pub names_a_row : Db → TableNo → Option Key → Bool
names_a_row db table None = true
names_a_row db table (Some key) = is_there db (record { table = table; key = key })

-- a reference that isn't NULL and names no row
abbrev pub breaks_reference : Db → ColumnValue → Bool
breaks_reference db one = by one.column.refers
  where
    by : Option (RefKind × TableNo) → Bool
    by None = false
    by (Some link) = not (names_a_row db link.1 (literal_key one.value))

abbrev pub reference_rule : Db → ℕ → TableDef → List Row → Row → List Refusal
reference_rule db number table rows row =
    flat_map (λ one. if breaks_reference db one then Reference table.name (key_of table row) one.column.name ∷ [] else []) (column_values table row)

-- a row of a private table without an owner
abbrev pub owner_rule : Db → ℕ → TableDef → List Row → Row → List Refusal
owner_rule db number table rows row =
    if is_private db.schema number && not (has_owner db (name_of number table row)) then Owner table.name (key_of table row) ∷ [] else []

-- what is wrong with the rows, each list by table, then key, then column
unfoldable pub unique_faults : Db → List Refusal
unique_faults db = faults_by unique_rule db

unfoldable pub reference_faults : Db → List Refusal
reference_faults db = faults_by (reference_rule db) db

unfoldable pub owner_faults : Db → List Refusal
owner_faults db = faults_by (owner_rule db) db

-- more rows than a store may have, and a greater weight
abbrev pub limit_faults : Db → List Refusal
limit_faults db = (if nat_lt STORE_ROWS (row_count db) then Limit limit.Rows ∷ [] else []) ++ (if nat_lt STORE_WEIGHT (weight db) then Limit limit.Weight ∷ [] else [])

abbrev pub first_of : List Refusal → Option Refusal
first_of [] = None
first_of (fault ∷ faults) = Some fault

-- The first fault: of a UNIQUE column, else of a reference, else a row without an owner, else a limit.
unfoldable pub fault : Db → Option Refusal
fault db = first_of (unique_faults db ++ reference_faults db ++ owner_faults db ++ limit_faults db)
