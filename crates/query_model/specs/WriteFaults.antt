-- What is wrong with an INSERT, an UPDATE, a DELETE or a GDPR call.
use Rattle.std.specs.Prelude.{ℕ, List, [], ◌∷◌, ◌++◌, Bool, false, not, ◌&&◌, ◌||◌, ◌==◌, Option, None, Some, filter, find, flat_map, length, map, slice_get, bytes_eq, if◌then◌else◌}
use Rattle.std.specs.List.{enumerate_from, list_any, zip}
use Rattle.std.specs.Option.{option_map_or}
use Rattle.own_base.specs.declared.value.Key.{Key}
use Rattle.own_base.specs.declared.value.Value.{Value}
use Rattle.own_model.specs.declared.condition.Cond.{Cond}
use Rattle.own_model.specs.declared.expression.Expr.{Expr}
use Rattle.own_model.specs.declared.expression.Expr.TheVariants.{Literal, Column, Plus, Minus}
use Rattle.own_model.specs.declared.refusal.Refusal.{Refusal}
use Rattle.own_model.specs.declared.refusal.Refusal.TheVariants.{Count, KeyWrite, NoColumn, NotSubject, NullValue, WrongKind}
use Rattle.own_model.specs.declared.schema.Column.{Column as Definition}
use Rattle.own_model.specs.declared.schema.Kind.{Kind}
use Rattle.own_model.specs.declared.schema.Schema.{Schema}
use Rattle.own_model.specs.declared.schema.TableDef.{TableDef}
use Rattle.query_model.specs.ConditionFaults.{where_faults}
use Rattle.query_model.specs.Kinds.{are_compared, goes_with, is_text, key_kind}
use Rattle.query_model.specs.Scope.{NameBytes, table_named, table_scope}
use Rattle.query_model.specs.SelectFaults.{no_table}
use Rattle.query_model.specs.Truth.{is_null}

-- the columns of a table with their numbers
abbrev pub numbered_columns : TableDef → List (ℕ × Definition)
numbered_columns table = enumerate_from 0 table.columns

-- the column of a name, with its number
abbrev pub column_in : TableDef → NameBytes → Option (ℕ × Definition)
column_in table name = find (λ numbered. bytes_eq numbered.1.name name) (numbered_columns table)

-- a name that is no column of the table
abbrev pub not_a_column : TableDef → NameBytes → List Refusal
not_a_column table name = option_map_or (λ found. []) (column_in table name) (NoColumn name ∷ [])

-- a column list or a SET list that names a column twice; once for each name that stands before too
abbrev pub twice : List NameBytes → List NameBytes → List Refusal
twice before [] = []
twice before (name ∷ names) = (if list_any (λ other. bytes_eq other name) before then Count 2 1 ∷ [] else []) ++ twice (before ++ name ∷ []) names

-- the primary key and a NOT NULL column take no NULL
abbrev pub takes_no_null : TableDef → ℕ × Definition → Bool
takes_no_null table column = column.0 == table.key.0 || column.1.not_null

-- the columns that the values of a tuple are for: those that are named, else all
abbrev pub columns_for : TableDef → Option (List NameBytes) → List (Option (ℕ × Definition))
columns_for table None = map (λ column. Some column) (numbered_columns table)
columns_for table (Some names) = map (column_in table) names

-- those that an INSERT doesn't name, by number
abbrev pub columns_left : TableDef → Option (List NameBytes) → List (ℕ × Definition)
columns_left table None = []
columns_left table (Some names) = filter (λ column. not (list_any (λ name. bytes_eq name column.1.name) names)) (numbered_columns table)

-- a value of another kind than its column, and a NULL where none may stand
abbrev pub value_faults : TableDef → Option (ℕ × Definition) → Value → List Refusal
value_faults table None value = []
value_faults table (Some column) value = (if goes_with column.1.kind value then [] else WrongKind column.1.name ∷ [])
    ++ (if is_null value && takes_no_null table column then NullValue column.1.name ∷ [] else [])

-- a tuple of another number of values than the columns
abbrev pub wrong_count : ℕ → ℕ → List Refusal
wrong_count got wanted = if got == wanted then [] else Count got wanted ∷ []

-- the columns that aren't named get NULL; they stand at the end of the tuple
abbrev pub left_faults : TableDef → List (ℕ × Definition) → List Refusal
left_faults table columns = flat_map (λ column. if takes_no_null table column then NullValue column.1.name ∷ [] else []) columns

-- the faults of a tuple; its values are paired with columns as far as both go
abbrev pub tuple_faults : TableDef → Option (List NameBytes) → List Value → List Refusal
tuple_faults table names tuple = wrong_count (length tuple) (length (columns_for table names))
    ++ flat_map (λ pair. value_faults table pair.0 pair.1) (zip (columns_for table names) tuple)
    ++ left_faults table (columns_left table names)

-- the faults of a column list
abbrev pub list_faults : TableDef → Option (List NameBytes) → List Refusal
list_faults table None = []
list_faults table (Some names) = flat_map (not_a_column table) names ++ twice [] names

-- what is wrong with an INSERT into a table
abbrev pub insert_faults_in : Option (List NameBytes) → List (List Value) → TableDef → List Refusal
insert_faults_in names tuples table = list_faults table names ++ flat_map (tuple_faults table names) tuples

-- the faults of what is said of a table, where there is one of this name
abbrev pub faults_in : Schema → NameBytes → (TableDef → List Refusal) → List Refusal
faults_in schema name faults = option_map_or (λ found. faults found.1) (table_named schema name) []

-- the faults of an INSERT
unfoldable pub insert_faults : Schema → NameBytes → Option (List NameBytes) → List (List Value) → List Refusal
insert_faults schema name names tuples = no_table schema name ++ faults_in schema name (insert_faults_in names tuples)

-- the kinds of two columns go together; the column assigned is named
abbrev pub assigned_kind : NameBytes → Option (ℕ × Definition) → Kind → List Refusal
assigned_kind assigned None kind = []
assigned_kind assigned (Some column) kind = if are_compared column.1.kind kind then [] else WrongKind assigned ∷ []

-- A sum is a number: one for a text column names that column; one of a text names the column summed.
abbrev pub sum_faults : NameBytes → Option (ℕ × Definition) → Option (ℕ × Definition) → NameBytes → List Refusal
sum_faults assigned column summed name = if option_map_or (λ found. is_text found.1.kind) column false then WrongKind assigned ∷ []
    else (if option_map_or (λ found. is_text found.1.kind) summed false then WrongKind name ∷ [] else [])

-- the faults of what a column is set to
abbrev pub expression_faults : TableDef → NameBytes → Option (ℕ × Definition) → Expr → List Refusal
expression_faults table assigned column (Literal value) = option_map_or (λ found. (if goes_with found.1.kind value then [] else WrongKind assigned ∷ [])
    ++ (if is_null value && found.1.not_null then NullValue assigned ∷ [] else [])) column []
expression_faults table assigned column (Column name) = not_a_column table name
    ++ option_map_or (λ found. assigned_kind assigned column found.1.kind) (column_in table name) []
expression_faults table assigned column (Plus name number) = not_a_column table name ++ sum_faults assigned column (column_in table name) name
expression_faults table assigned column (Minus name number) = not_a_column table name ++ sum_faults assigned column (column_in table name) name

-- a primary key isn't set
abbrev pub key_write : TableDef → NameBytes → List Refusal
key_write table name = if option_map_or (λ found. found.0 == table.key.0) (column_in table name) false then KeyWrite name ∷ [] else []

-- the faults of one column that is set
abbrev pub set_faults : TableDef → NameBytes × Expr → List Refusal
set_faults table set = not_a_column table set.0 ++ key_write table set.0 ++ expression_faults table set.0 (column_in table set.0) set.1

-- the faults of an UPDATE
unfoldable pub update_faults : Schema → NameBytes → List (NameBytes × Expr) → Option Cond → List Refusal
update_faults schema name sets cond = no_table schema name
    ++ faults_in schema name (λ table. flat_map (set_faults table) sets ++ twice [] (map (λ set. set.0) sets))
    ++ where_faults (table_scope schema name) cond

-- the faults of a DELETE
unfoldable pub delete_faults : Schema → NameBytes → Option Cond → List Refusal
delete_faults schema name cond = no_table schema name ++ where_faults (table_scope schema name) cond

-- a key of another kind than the primary key, and a table whose rows aren't data subjects
abbrev pub subject_faults : NameBytes → Key → TableDef → List Refusal
subject_faults name key table =
    option_map_or (λ column. if are_compared column.kind (key_kind key) then [] else WrongKind column.name ∷ []) (slice_get table.columns table.key.0) []
    ++ (if table.subject then [] else NotSubject name ∷ [])

-- the faults of a GDPR call
unfoldable pub gdpr_faults : Schema → NameBytes → Key → List Refusal
gdpr_faults schema name key = no_table schema name ++ faults_in schema name (subject_faults name key)
