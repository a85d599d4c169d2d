use Rattle.std.proofs.Common.{◌≡◌, List, map, ap, sym, ◌∙◌, arith}
use Rattle.std.specs.List.{flat_map, slice_get}
use Rattle.std.proofs.lemmas.List.Folds.{flat_map-map}
use Rattle.own_model.specs.declared.create.CreateTable.{CreateTable}
use Rattle.own_model.specs.declared.schema.Schema.{Schema}
use Rattle.schema_draft.specs.declared.draft.OnRule.{OnRule}
use Rattle.schema_draft.specs.Lent.{rule_seen}
use Rattle.schema_model.specs.Columns.{NameBytes}
use Rattle.schema_model.specs.rules.ColumnsNotToRule.{columns_not_to_rule, not_to_rule_by}
use Rattle.schema_model.specs.OnRules.{rules_of}
use Rattle.schema_rules.proofs.Firsts.{flat_map_first, flat_map_none, none_of_all}
use Rattle.schema_rules.proofs.on_rules.columns_not_to_rule.Goals as goal

-- the columns that a rule names and may not, of the rule as it is lent
abbrev not_to_rule : Schema → CreateTable → OnRule → List NameBytes
not_to_rule schema create rule = not_to_rule_by schema create (rule_seen rule)

-- the rule's list, over the rules as they are lent
by_rules : (schema : Schema) (create : CreateTable) (rules : List OnRule) → map rule_seen rules ≡ rules_of create
    → slice_get (flat_map (not_to_rule schema create) rules) 0 ≡ slice_get (columns_not_to_rule schema create) 0
unfolding columns_not_to_rule
by_rules schema create rules whole =
    ap (λ names. slice_get names 0) (sym (flat_map-map (not_to_rule_by schema create) rule_seen rules) ∙ ap (flat_map (not_to_rule_by schema create)) whole)

pub returns-in-Some : goal.returns-in-Some
returns-in-Some c =
    let schema = c.args.scene.now.schema.now in
    let create = c.args.scene.now.draft.now in
    let rules = c.rules-rule-items.result.now in
    flat_map_first (not_to_rule schema create) rules c.loop-rule.rule-index c.rule-item.result (omega arith) c.rule-item.is c.loop-rule.invariant _ c.in-Some.ensures
    ∙ by_rules schema create rules c.rules-rule-items.ensures

pub loop-rule-preserved : goal.loop-rule-preserved
loop-rule-preserved c =
    flat_map_none (not_to_rule c.args.scene.now.schema.now c.args.scene.now.draft.now) c.rules-rule-items.result.now c.loop-rule.rule-index c.rule-item.result (omega arith) c.rule-item.is c.loop-rule.invariant c.in_default.ensures

pub returns : goal.returns
returns c =
    let schema = c.args.scene.now.schema.now in
    let create = c.args.scene.now.draft.now in
    let rules = c.rules-rule-items.result.now in
    none_of_all (flat_map (not_to_rule schema create)) rules c.loop-rule.rule-index (omega arith) c.loop-rule.invariant
    ∙ by_rules schema create rules c.rules-rule-items.ensures
