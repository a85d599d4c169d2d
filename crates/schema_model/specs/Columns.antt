-- The columns of a CREATE TABLE.
use Rattle.std.specs.Prelude.{ℕ, List, [], ◌∷◌, Bool, true, false, Option, None, Some, map, filter_map, flat_map, bytes_eq, if◌then◌else◌}
use Rattle.std.specs.List.{list_any}
use Rattle.own_model.specs.declared.create.Attr.{Attr}
use Rattle.own_model.specs.declared.create.Attr.TheVariants as attr
use Rattle.own_model.specs.declared.create.ColumnDef.{ColumnDef}
use Rattle.own_model.specs.declared.create.CreateTable.{CreateTable}
use Rattle.own_model.specs.declared.create.Part.{Part}
use Rattle.own_model.specs.declared.create.Part.TheVariants as part

-- a name of a table, a view or a column: its bytes
abbrev pub NameBytes : Type 0
NameBytes = List ℕ

-- whether this is one of these names
abbrev pub is_named : List NameBytes → NameBytes → Bool
is_named names name = list_any (λ other. bytes_eq other name) names

abbrev pub column_of : Part → Option ColumnDef
column_of (part.Column column) = Some column
column_of _ = None

-- the columns, in the text's order
abbrev pub columns_of : CreateTable → List ColumnDef
columns_of create = filter_map column_of create.parts

-- their names
abbrev pub column_names : CreateTable → List NameBytes
column_names create = map (λ column. column.name) (columns_of create)

-- whether PRIMARY KEY, NOT NULL or UNIQUE stands after a column's kind
abbrev pub is_key : Attr → Bool
is_key attr.Key = true
is_key _ = false

abbrev pub is_not_null : Attr → Bool
is_not_null attr.NotNull = true
is_not_null _ = false

abbrev pub is_unique : Attr → Bool
is_unique attr.Unique = true
is_unique _ = false

-- the name of a column, once for each PRIMARY KEY after its kind
abbrev pub keys_after : NameBytes → List Attr → List NameBytes
keys_after column attrs = flat_map (λ attr. if is_key attr then column ∷ [] else []) attrs

-- the columns of a part that PRIMARY KEY is given to
abbrev pub keys_of : Part → List NameBytes
keys_of (part.Column column) = keys_after column.name column.attrs
keys_of (part.Key column) = column ∷ []
keys_of _ = []

-- the columns that PRIMARY KEY is given to, each as often as it is
abbrev pub key_columns : CreateTable → List NameBytes
key_columns create = flat_map keys_of create.parts

-- the first of these names, if there is one
abbrev pub first_name : List NameBytes → NameBytes
first_name [] = []
first_name (name ∷ names) = name

-- the column that is the primary key
abbrev pub key_name : CreateTable → NameBytes
key_name create = first_name (key_columns create)

-- whether a part makes this column UNIQUE
abbrev pub makes_unique : NameBytes → Part → Bool
makes_unique name (part.Unique column) = bytes_eq column name
makes_unique name _ = false
