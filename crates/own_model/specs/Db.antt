-- A database as plain lists: what a store represents.
use Rattle.std.specs.Prelude.{ℕ, ◌+◌, pos, List, [], ◌∷◌, map, Option, None, Some, slice_index_or, if◌then◌else◌}
use Rattle.std.specs.List.Sorted.{IsStrictlySortedBy}
use Rattle.std.specs.Str.{bytes_eq}
use Rattle.own_base.specs.Key.{key_cmp}
use Rattle.own_base.specs.declared.value.Value.{Value}
use Rattle.own_base.specs.declared.value.Value.TheVariants.{Null, Int, Text, Sum}
use Rattle.own_base.specs.declared.value.Key.{Key}
use Rattle.own_base.specs.declared.value.Key.TheVariants as key
use Rattle.own_model.specs.declared.schema.CreateText.{CreateText}
use Rattle.own_model.specs.declared.schema.Schema.{Schema}
use Rattle.own_model.specs.declared.schema.TableDef.{TableDef}

-- a row: its values by column number
abbrev pub Row : Type 0
Row = List Value

-- The canonical texts of the CREATE calls in order, the schema that they give, and for each table, by number, one list
-- of rows in strictly rising key order.
pub record Db : Type 0 where
  pub creates : List CreateText
  pub schema : Schema
  pub rows : List (List Row)

-- no CREATE yet
abbrev pub empty : Db
empty = record { creates = []; schema = record { tables = []; views = []; edges = [] }; rows = [] }

-- a value as a key; what stands in no primary key counts as 0
abbrev pub as_key : Value → Key
as_key (Int number) = key.Int number
as_key (Text bytes) = key.Text bytes
as_key Null = key.Int (pos 0)
as_key (Sum number) = key.Int (pos 0)

-- the primary key of a table's row
unfoldable pub key_of : TableDef → Row → Key
key_of table row = as_key (slice_index_or row table.key.0 Null)

-- the keys of a table's rows rise strictly, so no key comes twice
abbrev pub IsRising : TableDef → List Row → Type 0
IsRising table rows = IsStrictlySortedBy key_cmp (map (key_of table) rows)

-- each table has its list of rows, whose keys rise strictly
abbrev pub AreRising : List TableDef → List (List Row) → Type 0
AreRising [] [] = Unit {0}
AreRising [] (rows ∷ rest) = ⊥
AreRising (table ∷ tables) [] = ⊥
AreRising (table ∷ tables) (rows ∷ rest) = IsRising table rows × AreRising tables rest

-- one list of rows for each table, in strictly rising key order
pub record IsOrdered (db : Db) : Type 0 where
  pub rising : AreRising db.schema.tables db.rows

-- a table of a database: its number, its definition and its rows
pub record Table : Type 0 where
  pub number : ℕ
  pub definition : TableDef
  pub rows : List Row

-- the table that has this name, among those numbered from here on
unfoldable pub table_from : ℕ → List ℕ → List TableDef → List (List Row) → Option Table
table_from number name [] rows = None
table_from number name (definition ∷ definitions) [] = None
table_from number name (definition ∷ definitions) (first ∷ rest) =
    if bytes_eq definition.name name then Some (record { number = number; definition = definition; rows = first })
    else table_from (number + 1) name definitions rest

abbrev pub table_of : Db → List ℕ → Option Table
table_of db name = table_from 0 name db.schema.tables db.rows
