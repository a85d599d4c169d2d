use Rattle.std.proofs.Common.{◌≡◌, [], map, take}
use Rattle.schema_model.specs.rules.RepeatedColumns.{repeated_after}
use Rattle.schema_rules.proofs.references.second_references.Given as goal

abbrev pub invariant-loop-index : goal.invariant-loop-index
invariant-loop-index l = repeated_after [] (map (λ reference. reference.column.now) (take l.index l.references)) ≡ []
