use Rattle.std.proofs.Common.{◌≡◌, ◌-◌, drop}
use Rattle.schema_model.specs.Refusal.{broken, first_broken}
use Rattle.schema_rules.proofs.broken.broken_rule.Given as goal

abbrev pub invariant-loop-rule : goal.invariant-loop-rule
invariant-loop-rule l = first_broken l.rule (drop (l.rule - 1) (broken l.schema l.draft)) ≡ first_broken 1 (broken l.schema l.draft)
