-- Rule 14: DELETE_ROW stands on a column that gives ownership.
use Rattle.std.specs.Prelude.{List, Bool, false, not, ◌&&◌, filter, map}
use Rattle.std.specs.Option.{option_map_or}
use Rattle.own_model.specs.declared.create.CreateTable.{CreateTable}
use Rattle.schema_model.specs.Columns.{NameBytes}
use Rattle.schema_model.specs.Kinds.{gives_ownership}
use Rattle.schema_model.specs.OnRules.{OnRule, edge_on, is_strike, rules_of}

-- whether a rule is DELETE_ROW on a column that gives access alone
abbrev pub strikes_by_access : CreateTable → OnRule → Bool
strikes_by_access create rule = is_strike rule.effect
    && option_map_or (λ reference. not (gives_ownership reference.refers.kind)) (edge_on create rule.column) false

-- the columns of such rules
unfoldable pub rows_struck_by_access : CreateTable → List NameBytes
rows_struck_by_access create = map (λ rule. rule.column) (filter (strikes_by_access create) (rules_of create))
