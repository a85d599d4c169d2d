use Rattle.std.proofs.Common.{◌≡◌, map, take}
use Rattle.std.specs.List.{filter_map}
use Rattle.schema_draft.specs.Lent.{rule_seen}
use Rattle.schema_model.specs.OnRules.{rule_of}
use Rattle.schema_draft.proofs.part.rules.Given as goal

abbrev pub invariant-loop-part : goal.invariant-loop-part
invariant-loop-part l = map rule_seen l.rules.items ≡ filter_map rule_of (take l.part-index l.parts)
