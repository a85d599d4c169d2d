use Rattle.std.proofs.Common.{◌≡◌, ◌++◌, drop}
use Rattle.schema_model.specs.Explained.{names_in, rule_text}
use Rattle.annot_schema.proofs.RuleNames.{names_from, rule_left}
use Rattle.annot_schema.proofs.explain.push_rule.Given as goal

-- what is written, with what is left to write
abbrev pub invariant-loop-number : goal.invariant-loop-number
invariant-loop-number l = l.line ++ rule_left l.begun l.word (names_from l.set l.number (drop l.number l.columns)) ≡ l.initial.line ++ rule_text l.word (names_in l.columns l.set)
