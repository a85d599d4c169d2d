use Rattle.std.proofs.Common.{◌≡◌, ap, ◌∙◌, rules, tests}
use Rattle.std.specs.List.{find}
use Rattle.std.specs.Option.{option_copied, option_map}
use Rattle.std.proofs.lemmas.Iterator.{YieldsList-from_slice}
use Rattle.std.proofs.lemmas.Iterator.Search.{find_from_yields_List}
use Rattle.schema_draft.specs.Lent.{rule_seen}
use Rattle.schema_model.specs.OnRules.{rules_of}
use Rattle.schema_model.specs.rules.RowsStruckByAccess.{rows_struck_by_access, strikes_by_access}
use Rattle.schema_rules.proofs.Firsts.{first-passing}
use Rattle.schema_rules.proofs.on_rules.rows_struck_by_access.Goals as goal

pub returns : goal.returns
unfolding rows_struck_by_access
returns c =
    let create = c.args.draft.now in
    let rules' = c.rules.result.now in
    let found : option_copied c.find.result ≡ find (λ rule. strikes_by_access create (rule_seen rule)) rules' =
    find_from_yields_List (λ rule. strikes_by_access create (rule_seen rule)) _ _ c.find.result c.find.ensures.ran (YieldsList-from_slice rules' cc) (λ x b q k. search (rules, tests)) in
    let named : option_copied c.map.result ≡ option_map (λ rule. rule.column.now) (option_copied c.find.result) = search rules in
    named ∙ ap (option_map (λ rule. rule.column.now)) found
    ∙ first-passing (strikes_by_access create) (λ rule. rule.column) rule_seen rules' (rules_of create) c.rules.ensures
