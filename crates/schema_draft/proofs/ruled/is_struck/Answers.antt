use Rattle.std.proofs.Common.{◌≡◌, ◌&&◌, ap, ◌∙◌, rules, bytes_eq, tests}
use Rattle.std.specs.List.{list_any}
use Rattle.std.proofs.lemmas.Iterator.{YieldsList-from_slice}
use Rattle.std.proofs.lemmas.Iterator.Search.{any_from_yields_List}
use Rattle.schema_model.specs.OnRules.{is_strike}
use Rattle.schema_draft.specs.Lent.{effect_seen, rule_seen}
use Rattle.schema_draft.proofs.Lookups.{list_any-map}
use Rattle.schema_draft.proofs.ruled.is_struck.Goals as goal

pub returns : goal.returns
returns c =
    let column = c.args.column.now in
    let rules_lent = c.rules.result.now in
    let found : c.any.result ≡ list_any (λ rule. is_strike (effect_seen rule.effect) && bytes_eq rule.column.now column) rules_lent =
    any_from_yields_List (λ rule. is_strike (effect_seen rule.effect) && bytes_eq rule.column.now column) _ _ c.any.result c.any.ensures.ran (YieldsList-from_slice rules_lent cc) (λ x b q k. search (rules, tests)) in
    found ∙ list_any-map (λ rule. is_strike rule.effect && bytes_eq rule.column column) rule_seen rules_lent
    ∙ ap (list_any (λ rule. is_strike rule.effect && bytes_eq rule.column column)) c.rules.ensures
