-- Rule 13: an ON rule names columns of its edge's lower table that are neither its primary key nor have an edge. Its own
-- column it may name where that is OWNED_BY or ACCESSED_BY a table of data subjects.
use Rattle.std.specs.Prelude.{ℕ, List, [], Bool, false, not, ◌&&◌, ◌||◌, ◌==◌, Option, None, Some, filter, flat_map, position, slice_get, bytes_eq, if◌then◌else◌}
use Rattle.std.specs.Option.{option_map_or}
use Rattle.own_model.specs.declared.create.CreateTable.{CreateTable}
use Rattle.own_model.specs.declared.schema.Column.{Column}
use Rattle.own_model.specs.declared.schema.Schema.{Schema}
use Rattle.own_model.specs.declared.schema.TableDef.{TableDef}
use Rattle.schema_model.specs.Columns.{NameBytes}
use Rattle.schema_model.specs.Kinds.{gives_edge, is_upward}
use Rattle.schema_model.specs.NewTable.{new_table, target_of}
use Rattle.schema_model.specs.OnRules.{OnRule, edge_on, rules_of}
use Rattle.schema_model.specs.References.{Reference}
use Rattle.schema_model.specs.rules.OwnedSubjects.{names_subjects}

-- whether a column gives an edge
abbrev pub has_edge : Column → Bool
has_edge column = option_map_or (λ link. gives_edge link.0) column.refers false

-- whether the column of this number may be ruled: it isn't the primary key and has no edge
abbrev pub is_open : TableDef → ℕ → Bool
is_open table number = not (number == table.key.0) && option_map_or (λ column. not (has_edge column)) (slice_get table.columns number) false

-- whether a table has a column of this name that may be ruled
abbrev pub has_open_column : NameBytes → TableDef → Bool
has_open_column name table = option_map_or (is_open table) (position (λ column. bytes_eq column.name name) table.columns) false

-- the lower table of the edge that a reference gives: the new one, or the one that it names
abbrev pub lower_table : Schema → CreateTable → Reference → Option TableDef
lower_table schema create reference =
    if is_upward reference.refers.kind then Some (new_table schema create) else target_of schema create reference.refers

-- whether a rule may name its own column
abbrev pub may_rule_itself : Schema → CreateTable → Reference → Bool
may_rule_itself schema create reference = is_upward reference.refers.kind && names_subjects schema create reference

-- whether a rule on this reference's column may name a column
abbrev pub may_rule : Schema → CreateTable → Reference → NameBytes → Bool
may_rule schema create reference name = option_map_or (has_open_column name) (lower_table schema create reference) false
    || (bytes_eq name reference.column && may_rule_itself schema create reference)

-- the columns that a rule names and may not
abbrev pub not_to_rule_by : Schema → CreateTable → OnRule → List NameBytes
not_to_rule_by schema create rule = by (edge_on create rule.column)
  where
    by : Option Reference → List NameBytes
    by None = []
    by (Some reference) = filter (λ name. not (may_rule schema create reference name)) rule.ruled

unfoldable pub columns_not_to_rule : Schema → CreateTable → List NameBytes
columns_not_to_rule schema create = flat_map (not_to_rule_by schema create) (rules_of create)
