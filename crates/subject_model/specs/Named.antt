-- The rows of a database with their names.
use Rattle.std.specs.Prelude.{ℕ, ◌+◌, List, [], ◌∷◌, ◌++◌, Bool, ◌&&◌, ◌==◌, is_some, map}
use Rattle.own_base.specs.Key.{key_cmp}
use Rattle.own_base.specs.declared.row_name.RowName.{RowName}
use Rattle.own_model.specs.declared.schema.TableDef.{TableDef}
use Rattle.own_model.specs.Db.{Db, Row, key_of}
use Rattle.own_model.specs.Stored.{is_equal}
use Rattle.owner_model.specs.Joins.{row_of}

-- a row, and what it is called
pub record NamedRow : Type 0 where
  pub name : RowName
  pub row : Row

-- the name of a row of the table of a number
abbrev pub name_of : ℕ → TableDef → Row → RowName
name_of number table row = record { table = record { 0 = number }; key = key_of table row }

-- the rows of one table
abbrev pub rows_in : ℕ → TableDef → List Row → List NamedRow
rows_in number table rows = map (λ row. record { name = name_of number table row; row = row }) rows

-- the rows of tables that are numbered from here on
unfoldable pub rows_from : ℕ → List TableDef → List (List Row) → List NamedRow
rows_from number [] rows = []
rows_from number (table ∷ tables) [] = []
rows_from number (table ∷ tables) (rows ∷ rest) = rows_in number table rows ++ rows_from (number + 1) tables rest

-- all rows of a database, by table, then key
abbrev pub named_rows : Db → List NamedRow
named_rows db = rows_from 0 db.schema.tables db.rows

-- whether two names are one
abbrev pub is_name : RowName → RowName → Bool
is_name name other = name.table.0 == other.table.0 && is_equal (key_cmp name.key other.key)

-- whether there is a row of this name
abbrev pub is_there : Db → RowName → Bool
is_there db name = is_some (row_of db name)
