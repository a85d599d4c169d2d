use Rattle.std.proofs.Common.{◌≡◌, [], map, take}
use Rattle.schema_draft.specs.Lent.{rule_seen}
use Rattle.schema_model.specs.rules.MisplacedRules.{misplaced_after}
use Rattle.schema_rules.proofs.on_rules.misplaced_rules.Given as goal

abbrev pub invariant-loop-index : goal.invariant-loop-index
invariant-loop-index l = misplaced_after l.draft [] (map rule_seen (take l.index l.rules)) ≡ []
