use Rattle.std.proofs.Common.{◌≡◌, Some, not, filter, refl, ap, sym, ◌∙◌, rules, tests}
use Rattle.std.specs.List.{find, slice_get}
use Rattle.std.specs.Option.{option_copied}
use Rattle.std.proofs.lemmas.Iterator.{YieldsList-from_slice}
use Rattle.std.proofs.lemmas.Iterator.Search.{find_from_yields_List}
use Rattle.own_model.specs.declared.create.CreateTable.{CreateTable}
use Rattle.own_model.specs.declared.schema.Schema.{Schema}
use Rattle.schema_draft.specs.Lent.{reference_seen, rule_seen}
use Rattle.schema_model.specs.OnRules.{OnRule, edge_on}
use Rattle.schema_model.specs.References.{Reference}
use Rattle.schema_model.specs.rules.ColumnsNotToRule.{may_rule, not_to_rule_by}
use Rattle.schema_rules.proofs.Firsts.{first-filter}
use Rattle.schema_rules.proofs.on_rules.not_to_rule_by.Goals as goal

-- the columns that a rule on this edge names and may not
by_edge : (schema : Schema) (create : CreateTable) (rule : OnRule) (reference : Reference) → edge_on create rule.column ≡ Some reference
    → filter (λ name. not (may_rule schema create reference name)) rule.ruled ≡ not_to_rule_by schema create rule
by_edge schema create rule reference found = rw found refl

pub returns-in-Some : goal.returns-in-Some
returns-in-Some c =
    let schema = c.args.scene.now.schema.now in
    let create = c.args.scene.now.draft.now in
    let rule = rule_seen c.args.rule.now in
    let reference = reference_seen c.in-Some.reference in
    let found : option_copied c.find.result ≡ find (λ name. not (may_rule schema create reference name)) rule.ruled =
    find_from_yields_List (λ name. not (may_rule schema create reference name)) _ _ c.find.result c.find.ensures.ran (YieldsList-from_slice rule.ruled cc) (λ x b q k. search (rules, tests)) in
    found
    ∙ sym (first-filter (λ name. not (may_rule schema create reference name)) rule.ruled)
    ∙ ap (λ names. slice_get names 0) (by_edge schema create rule reference (sym c.in-Some.ensures))
