-- Rule 12: an ON rule stands on a column that gives an edge, and a column has one of each kind at most.
use Rattle.std.specs.Prelude.{List, [], ◌∷◌, ◌++◌, Bool, ◌||◌, ◌&&◌, is_none, bytes_eq, if◌then◌else◌}
use Rattle.std.specs.List.{list_any}
use Rattle.own_model.specs.declared.create.CreateTable.{CreateTable}
use Rattle.schema_model.specs.Columns.{NameBytes}
use Rattle.schema_model.specs.OnRules.{OnRule, are_of_one_kind, edge_on, rules_of}

-- whether one of these rules is of the kind of another, GET or DEL, on its column
abbrev pub repeats_one_of : List OnRule → OnRule → Bool
repeats_one_of before rule = list_any (λ other. are_of_one_kind other.effect rule.effect && bytes_eq other.column rule.column) before

-- the columns of rules that have no edge, or a rule of its kind before it
abbrev pub misplaced_after : CreateTable → List OnRule → List OnRule → List NameBytes
misplaced_after create before [] = []
misplaced_after create before (rule ∷ rules) =
    (if is_none (edge_on create rule.column) || repeats_one_of before rule then rule.column ∷ [] else []) ++ misplaced_after create (before ++ rule ∷ []) rules

unfoldable pub misplaced_rules : CreateTable → List NameBytes
misplaced_rules create = misplaced_after create [] (rules_of create)
