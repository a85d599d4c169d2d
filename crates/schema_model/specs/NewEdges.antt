-- The edges that a CREATE TABLE adds.
use Rattle.std.specs.Prelude.{ℕ, List, Bool, false, ◌&&◌, Option, None, Some, filter_map, length, map, slice_get, bytes_eq, if◌then◌else◌}
use Rattle.std.specs.List.{enumerate_from, list_any}
use Rattle.std.specs.Option.{option_map_or}
use Rattle.own_base.specs.declared.number.ColumnSet.{ColumnSet}
use Rattle.own_base.specs.declared.number.TableNo.{TableNo}
use Rattle.own_model.specs.declared.create.CreateTable.{CreateTable}
use Rattle.own_model.specs.declared.schema.Column.{Column}
use Rattle.own_model.specs.declared.schema.Edge.{Edge}
use Rattle.own_model.specs.declared.schema.RefKind.{RefKind}
use Rattle.own_model.specs.declared.schema.Schema.{Schema}
use Rattle.own_model.specs.declared.schema.TableDef.{TableDef}
use Rattle.owner_model.specs.ColumnSets.{set_of}
use Rattle.schema_model.specs.Columns.{NameBytes, is_named}
use Rattle.schema_model.specs.Kinds.{gives_edge, gives_ownership, is_upward}
use Rattle.schema_model.specs.NewTable.{new_table, tables_with}
use Rattle.schema_model.specs.OnRules.{is_blank, is_get, is_strike, rules_of, ruled_by}

-- whether the column of this number, of this table, has one of these names
abbrev pub has_name_of : Option TableDef → List NameBytes → ℕ → Bool
has_name_of table names number = option_map_or (λ table. option_map_or (λ column. is_named names column.name) (slice_get table.columns number) false) table false

-- the set of a table's columns that have one of these names
abbrev pub set_named : Option TableDef → List NameBytes → ColumnSet
set_named table names = set_of (has_name_of table names)

-- what an edge is made of: its number, that of the new table's column, the column's name, and what the column refers to
pub record EdgeColumn : Type 0 where
  pub column : ℕ
  pub name : NameBytes
  pub kind : RefKind
  pub target : TableNo

-- the edge that a column gives
abbrev pub edge_column : ℕ → Column → Option EdgeColumn
edge_column number column = by column.refers
  where
    by : Option (RefKind × TableNo) → Option EdgeColumn
    by None = None
    by (Some link) = if gives_edge link.0 then Some (record { column = number; name = column.name; kind = link.0; target = link.1 }) else None

-- the columns of the new table that give edges, by number
abbrev pub edge_columns : Schema → CreateTable → List EdgeColumn
edge_columns schema create = filter_map (λ numbered. edge_column numbered.0 numbered.1) (enumerate_from 0 (new_table schema create).columns)

-- The edge of such a column. OWNED_BY and ACCESSED_BY lead up from the new table, OWNS and ACCESSES up to it.
unfoldable pub new_edge : Schema → CreateTable → ℕ → EdgeColumn → Edge
new_edge schema create number column = record {
  number = record { 0 = number };
  lower = lower;
  upper = if is_upward column.kind then column.target else itself;
  holder = itself;
  column = record { 0 = column.column };
  owner = gives_ownership column.kind;
  get = set_named below (ruled_by is_get create column.name);
  del = set_named below (ruled_by is_blank create column.name);
  strike = list_any (λ rule. is_strike rule.effect && bytes_eq rule.column column.name) (rules_of create);
}
  where
    itself : TableNo
    itself = record { 0 = length schema.tables }

    lower : TableNo
    lower = if is_upward column.kind then itself else column.target

    below : Option TableDef
    below = slice_get (tables_with schema create) lower.0

-- the edges, numbered as they follow those of the schema
unfoldable pub new_edges : Schema → CreateTable → List Edge
new_edges schema create = map (λ numbered. new_edge schema create numbered.0 numbered.1) (enumerate_from (length schema.edges) (edge_columns schema create))
