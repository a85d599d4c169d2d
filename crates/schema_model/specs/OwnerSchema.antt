-- What holds of the schema that admitted creates give.
use Rattle.std.specs.Prelude.{◌≡◌, ◌≢◌, ◌⊎◌, ◌<◌, ℕ, List, true, false, ◌==◌, Some, length, map, slice_get, bytes_eq, IsTrue, if◌then◌else◌}
use Rattle.std.specs.List.{AllByRecursion, IsDistinct, range_with_len}
use Rattle.own_base.specs.declared.number.TableNo.{TableNo}
use Rattle.own_model.specs.declared.schema.Column.{Column}
use Rattle.own_model.specs.declared.schema.Edge.{Edge}
use Rattle.own_model.specs.declared.schema.RefKind.{RefKind}
use Rattle.own_model.specs.declared.schema.Schema.{Schema}
use Rattle.own_model.specs.declared.schema.TableDef.{TableDef}
use Rattle.owner_model.specs.ColumnSets.{has_column}
use Rattle.owner_model.specs.Leads.{leads}
use Rattle.schema_model.specs.Kinds.{gives_edge, gives_ownership, is_upward}
use Rattle.schema_model.specs.Tables.{is_private, is_subject}

-- no two columns of a table have one name
abbrev pub ColumnsDiffer : TableDef → Type 0
ColumnsDiffer table = IsDistinct bytes_eq (map (λ column. column.name) table.columns)

-- A column that refers to a table is of the kind of that table's key, and is no key itself.
pub record RefersToKey (schema : Schema) (column : Column) (link : RefKind × TableNo) : Type 0 where
  pub table : TableDef
  pub table_is : slice_get schema.tables link.1.0 ≡ Some table
  pub key : Column
  pub key_is : slice_get table.columns table.key.0 ≡ Some key
  pub kind : column.kind ≡ key.kind

-- each reference of a table's columns does
abbrev pub ColumnsRefer : Schema → TableDef → Type 0
ColumnsRefer schema table = (number : ℕ) (column : Column) (link : RefKind × TableNo)
    → slice_get table.columns number ≡ Some column → column.refers ≡ Some link → (number ≢ table.key.0) × RefersToKey schema column link

-- the table that an edge's column names: the one of the two that doesn't hold it
abbrev pub named_table : Edge → TableNo
named_table edge = if edge.holder.0 == edge.lower.0 then edge.upper else edge.lower

-- An edge joins two tables that differ. One of them holds its column, which refers to the other by a kind that gives an edge.
-- The kind says which: the lower one with OWNED_BY and ACCESSED_BY, the upper one with OWNS and ACCESSES; and whether the edge
-- is one of owners.
pub record IsOwnerEdge (schema : Schema) (edge : Edge) : Type 0 where
  pub differ : edge.lower.0 ≢ edge.upper.0
  pub held : (edge.holder ≡ edge.lower) ⊎ (edge.holder ≡ edge.upper)
  pub holder : TableDef
  pub holder_is : slice_get schema.tables edge.holder.0 ≡ Some holder
  pub column : Column
  pub column_is : slice_get holder.columns edge.column.0 ≡ Some column
  pub kind : RefKind
  pub refers : column.refers ≡ Some (kind, named_table edge)
  pub edges : IsTrue (gives_edge kind)
  pub side : edge.holder ≡ (if is_upward kind then edge.lower else edge.upper)
  pub owner : edge.owner ≡ gives_ownership kind

-- the edge of a column: that of a number, of the table of a number
pub record HasEdge (edges : List Edge) (table column : ℕ) : Type 0 where
  pub place : ℕ
  pub edge : Edge
  pub edge_is : slice_get edges place ≡ Some edge
  pub holder_is : edge.holder.0 ≡ table
  pub column_is : edge.column.0 ≡ column

-- each column that refers by a kind that gives an edge has it
abbrev pub ColumnsHaveEdges : List Edge → List TableDef → Type 0
ColumnsHaveEdges edges tables = (number place : ℕ) (table : TableDef) (column : Column) (link : RefKind × TableNo) → slice_get tables number ≡ Some table
    → slice_get table.columns place ≡ Some column → column.refers ≡ Some link → IsTrue (gives_edge link.0) → HasEdge edges number place

-- edges stand by the table that holds the column, then by column, each column once
abbrev pub ComesBefore : Edge → Edge → Type 0
ComesBefore edge other = (edge.holder.0 < other.holder.0) ⊎ ((edge.holder ≡ other.holder) × (edge.column.0 < other.column.0))

abbrev pub EdgesRise : List Edge → Type 0
EdgesRise edges = (place behind : ℕ) (edge other : Edge) → place < behind → slice_get edges place ≡ Some edge → slice_get edges behind ≡ Some other → ComesBefore edge other

-- What one edge rules ON DEL is neither a key of the lower table nor a column of an edge, unless it is its own column and
-- the edge leads up to a table of data subjects.
pub record RulesWell (schema : Schema) (ruling : Edge) : Type 0 where
  pub no_key : (table : TableDef) → slice_get schema.tables ruling.lower.0 ≡ Some table → has_column ruling.del table.key.0 ≡ false
  pub own_alone : AllByRecursion (λ edge. edge.holder ≡ ruling.lower → has_column ruling.del edge.column.0 ≡ true
      → (edge ≡ ruling) × IsTrue (is_subject schema ruling.upper.0)) schema.edges

-- a schema whose edges are an ownership graph
pub record IsOwnerSchema (schema : Schema) : Type 0 where
  pub numbered : map (λ edge. edge.number.0) schema.edges ≡ range_with_len 0 (length schema.edges)
  -- so a name tells a column: what a rule names is one column of the lower table
  pub names : AllByRecursion ColumnsDiffer schema.tables
  pub columns : AllByRecursion (ColumnsRefer schema) schema.tables
  pub edges : AllByRecursion (IsOwnerEdge schema) schema.edges
  pub each : ColumnsHaveEdges schema.edges schema.tables
  pub rise : EdgesRise schema.edges
  pub rules : AllByRecursion (RulesWell schema) schema.edges
  -- no walk leads from a table back to it
  pub acyclic : (table : ℕ) → leads schema.edges table table ≡ false
  -- nobody owns a data subject
  pub subjects : (table : ℕ) → IsTrue (is_subject schema table) → is_private schema table ≡ false
