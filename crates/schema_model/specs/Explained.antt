-- Who owns what, as EXPLAIN COMPLIANCE shows it.
use Rattle.std.specs.Prelude.{ℕ, List, [], ◌∷◌, ◌++◌, ◌==◌, Option, None, Some, filter, filter_map, flat_map, map, slice_get, codes, if◌then◌else◌}
use Rattle.std.specs.List.{enumerate_from, join_by}
use Rattle.std.specs.Option.{option_and_then, option_map_or}
use Rattle.own_base.specs.declared.number.ColumnSet.{ColumnSet}
use Rattle.own_base.specs.declared.number.TableNo.{TableNo}
use Rattle.own_model.specs.declared.schema.Column.{Column}
use Rattle.own_model.specs.declared.schema.Edge.{Edge}
use Rattle.own_model.specs.declared.schema.RefKind.{RefKind}
use Rattle.own_model.specs.declared.schema.Schema.{Schema}
use Rattle.own_model.specs.declared.schema.TableDef.{TableDef}
use Rattle.owner_model.specs.ColumnSets.{has_column}
use Rattle.text_model.specs.Canonical.{ref_kind_word}
use Rattle.schema_model.specs.Columns.{NameBytes}
use Rattle.schema_model.specs.Tables.{is_private, is_subject}

-- what a table is to data subjects
unfoldable pub class_word : Schema → ℕ → List ℕ
class_word schema table = if is_subject schema table then codes "subject" else if is_private schema table then codes "private" else codes "public"

-- the line of a table: its name and its class
abbrev pub table_line : Schema → ℕ → TableDef → List ℕ
table_line schema number table = table.name ++ codes " " ++ class_word schema number

-- the name of a table, and of a column of it
abbrev pub table_name : Schema → ℕ → NameBytes
table_name schema table = option_map_or (λ definition. definition.name) (slice_get schema.tables table) []

abbrev pub column_at : Schema → ℕ → ℕ → Option Column
column_at schema table column = option_and_then (λ definition. slice_get definition.columns column) (slice_get schema.tables table)

abbrev pub column_name : Schema → ℕ → ℕ → NameBytes
column_name schema table column = option_map_or (λ found. found.name) (column_at schema table column) []

-- how a column refers to its table
abbrev pub link_word : Option (RefKind × TableNo) → List ℕ
link_word None = []
link_word (Some link) = ref_kind_word link.0

-- the names of a set of a table's columns, by number
abbrev pub names_in : List Column → ColumnSet → List NameBytes
names_in columns set = filter_map (λ numbered. if has_column set numbered.0 then Some numbered.1.name else None) (enumerate_from 0 columns)

-- names in brackets
abbrev pub bracketed_names : List NameBytes → List ℕ
bracketed_names names = codes "(" ++ join_by (λ name. name) (codes ", ") names ++ codes ")"

-- what represents a rule that names these columns, where it names any
abbrev pub rule_text : List ℕ → List NameBytes → List ℕ
rule_text word [] = []
rule_text word (name ∷ names) = codes " " ++ word ++ codes " " ++ bracketed_names (name ∷ names)

-- the columns of a table
abbrev pub columns_at : Schema → ℕ → List Column
columns_at schema table = option_map_or (λ definition. definition.columns) (slice_get schema.tables table) []

-- the ON GET and ON DEL rules of an edge, over the columns of its lower table
abbrev pub rules_text : Schema → Edge → List ℕ
rules_text schema edge = rule_text (codes "GET") (names_in (columns_at schema edge.lower.0) edge.get)
    ++ rule_text (codes "DEL") (names_in (columns_at schema edge.lower.0) edge.del)
    ++ (if edge.strike then codes " DEL ROW" else [])

-- the line of an edge: its column, how it refers, the table that it names, and its rules
unfoldable pub edge_line : Schema → Edge → List ℕ
edge_line schema edge = table_name schema edge.holder.0 ++ codes "." ++ column_name schema edge.holder.0 edge.column.0
    ++ codes " " ++ option_map_or (λ column. link_word column.refers) (column_at schema edge.holder.0 edge.column.0) []
    ++ codes " " ++ table_name schema (if edge.holder.0 == edge.lower.0 then edge.upper.0 else edge.lower.0)
    ++ rules_text schema edge

-- a table's line, and those of its own columns that give edges
abbrev pub table_lines : Schema → ℕ × TableDef → List (List ℕ)
table_lines schema numbered = table_line schema numbered.0 numbered.1
    ∷ map (edge_line schema) (filter (λ edge. edge.holder.0 == numbered.0) schema.edges)

-- the lines of all tables, by number
unfoldable pub explained : Schema → List (List ℕ)
explained schema = flat_map (table_lines schema) (enumerate_from 0 schema.tables)
