use Rattle.std.proofs.Common.{Some, Bool, ◌&&◌, ap, ◌∙◌, bytes_eq, filter, map, take}
use Rattle.std.specs.List.{flat_map}
use Rattle.schema_model.specs.NewEdges.{set_named}
use Rattle.schema_model.specs.OnRules.{OnRule}
use Rattle.schema_draft.specs.Lent.{is_effect, rule_seen}
use Rattle.schema_draft.proofs.RuledSets.{ruled-push, set_named-nil}
use Rattle.schema_draft.proofs.ruled.ruled_columns.Goals as goal

pub loop-rule-init : goal.loop-rule-init
loop-rule-init c = set_named-nil c.args.table.now

pub loop-rule-preserved : goal.loop-rule-preserved
loop-rule-preserved c =
    let passes : OnRule → Bool = λ rule. is_effect c.args.effect rule.effect && bytes_eq rule.column c.args.column.now in
    let rules = c.rules-rule-items.result.now in
    let number = c.loop-rule.rule-index in
    c.with_rule-set.ensures (flat_map (λ rule. rule.ruled) (filter passes (map rule_seen (take number rules)))) c.loop-rule.invariant
    ∙ ap (set_named (Some c.args.table.now)) (ruled-push passes rule_seen rules number c.rule-item.result c.loop-rule-test.true c.rule-item.is)
