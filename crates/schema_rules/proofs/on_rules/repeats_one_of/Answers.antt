use Rattle.std.proofs.Common.{◌≡◌, ◌&&◌, ◌∙◌, bytes_eq, rules, tests}
use Rattle.std.specs.List.{list_any}
use Rattle.std.proofs.lemmas.Iterator.{YieldsList-from_slice}
use Rattle.std.proofs.lemmas.Iterator.Search.{any_from_yields_List}
use Rattle.schema_draft.proofs.Lookups.{list_any-map}
use Rattle.schema_draft.specs.Lent.{effect_seen, rule_seen}
use Rattle.schema_model.specs.OnRules.{are_of_one_kind}
use Rattle.schema_rules.proofs.on_rules.repeats_one_of.Goals as goal

pub returns : goal.returns
returns c =
    let before = c.args.before.now in
    let rule = rule_seen c.args.rule.now in
    let found : c.any.result ≡ list_any (λ other. are_of_one_kind (effect_seen other.effect) rule.effect && bytes_eq other.column.now rule.column) before =
    any_from_yields_List (λ other. are_of_one_kind (effect_seen other.effect) rule.effect && bytes_eq other.column.now rule.column) _ _ c.any.result c.any.ensures.ran (YieldsList-from_slice before cc) (λ x b q k. search (rules, tests)) in
    found ∙ list_any-map (λ other. are_of_one_kind other.effect rule.effect && bytes_eq other.column rule.column) rule_seen before
