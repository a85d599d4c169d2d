use Rattle.std.proofs.Common.{◌≡◌, [], take}
use Rattle.std.specs.List.{flat_map}
use Rattle.schema_draft.specs.Lent.{rule_seen}
use Rattle.schema_model.specs.rules.ColumnsNotToRule.{not_to_rule_by}
use Rattle.schema_rules.proofs.on_rules.columns_not_to_rule.Given as goal

abbrev pub invariant-loop-rule : goal.invariant-loop-rule
invariant-loop-rule l = flat_map (λ rule. not_to_rule_by l.scene.schema.now l.scene.draft.now (rule_seen rule)) (take l.rule-index l.rule-items) ≡ []
