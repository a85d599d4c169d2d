-- What the names of columns mean in a statement.
use Rattle.std.specs.Prelude.{ℕ, List, [], ◌∷◌, Bool, true, ◌&&◌, Option, None, Some, filter, find, map, bytes_eq}
use Rattle.std.specs.List.{enumerate_from, zip}
use Rattle.std.specs.Option.{option_map_or}
use Rattle.own_model.specs.declared.refusal.Refusal.{Refusal}
use Rattle.own_model.specs.declared.refusal.Refusal.TheVariants.{NoColumn}
use Rattle.own_model.specs.declared.schema.Kind.{Kind}
use Rattle.own_model.specs.declared.schema.Schema.{Schema}
use Rattle.own_model.specs.declared.schema.TableDef.{TableDef}
use Rattle.own_model.specs.declared.schema.ViewDef.{ViewDef}
use Rattle.own_model.specs.declared.select.ColRef.{ColRef}

-- a name's bytes
abbrev pub NameBytes : Type 0
NameBytes = List ℕ

-- a column that can be named: the table or view before the dot, its own name, its number in the source's row, and its kind
pub record Named : Type 0 where
  pub table : NameBytes
  pub column : NameBytes
  pub number : ℕ
  pub kind : Kind

-- the columns that can be named, in the order of the source's row
abbrev pub Scope : Type 0
Scope = List Named

-- the names and kinds of a table's columns, and of a view's
abbrev pub table_columns : TableDef → List (NameBytes × Kind)
table_columns table = map (λ column. (column.name, column.kind)) table.columns

abbrev pub view_columns : ViewDef → List (NameBytes × Kind)
view_columns view = zip view.names view.kinds

-- columns that stand in the row from this number on
abbrev pub scope_from : ℕ → NameBytes → List (NameBytes × Kind) → Scope
scope_from number table columns = map (λ numbered. record { table = table; column = numbered.1.0; number = numbered.0; kind = numbered.1.1 }) (enumerate_from number columns)

-- whether a reference names a column: by its own name, and by its table where that stands before the dot
abbrev pub is_meant : ColRef → Named → Bool
is_meant reference named = bytes_eq named.column reference.column && option_map_or (bytes_eq named.table) reference.table true

-- the columns that a reference names
abbrev pub meant : Scope → ColRef → List Named
meant scope reference = filter (is_meant reference) scope

-- the one member of a list
abbrev pub only : List Named → Option Named
only (one ∷ []) = Some one
only _ = None

-- The column that a reference means: the one that it names. A bare name of two tables means none.
unfoldable pub column_meant : Scope → ColRef → Option Named
column_meant scope reference = only (meant scope reference)

-- the fault of a reference that means no column
abbrev pub no_column : Scope → ColRef → List Refusal
no_column scope reference = option_map_or (λ named. []) (column_meant scope reference) (NoColumn reference.column ∷ [])

-- the number of the column that a reference means
abbrev pub number_meant : Scope → ColRef → ℕ
number_meant scope reference = option_map_or (λ named. named.number) (column_meant scope reference) 0

-- the table of a name, and the view
abbrev pub table_named : Schema → NameBytes → Option (ℕ × TableDef)
table_named schema name = find (λ numbered. bytes_eq numbered.1.name name) (enumerate_from 0 schema.tables)

abbrev pub view_named : Schema → NameBytes → Option (ℕ × ViewDef)
view_named schema name = find (λ numbered. bytes_eq numbered.1.name name) (enumerate_from 0 schema.views)

-- the columns of the table or the view of a name; none where there is neither
abbrev pub columns_named : Schema → NameBytes → List (NameBytes × Kind)
columns_named schema name = option_map_or (λ found. table_columns found.1) (table_named schema name)
    (option_map_or (λ found. view_columns found.1) (view_named schema name) [])

-- those of a table alone
abbrev pub table_columns_named : Schema → NameBytes → List (NameBytes × Kind)
table_columns_named schema name = option_map_or (λ found. table_columns found.1) (table_named schema name) []

-- the columns of a table
abbrev pub table_scope : Schema → NameBytes → Scope
table_scope schema name = scope_from 0 name (table_columns_named schema name)
