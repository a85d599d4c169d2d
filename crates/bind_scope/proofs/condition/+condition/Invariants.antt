use Rattle.std.proofs.Common.{◌≡◌, map, take}
use Rattle.std.specs.List.{flat_map}
use Rattle.query_model.specs.ConditionFaults.{bound_condition, condition_faults}
use Rattle.bind_scope.specs.After.{after}
use Rattle.bind_scope.proofs.condition.+condition.Given as goal

-- the parts so far are bound, and their faults noted
abbrev pub invariant-bind_parts-loop-part : goal.invariant-bind_parts-loop-part
invariant-bind_parts-loop-part l = record {
  noted : l.least ≡ after l.initial.least (flat_map (condition_faults l.scope) (take l.part-index l.parts));
  bound : l.bound ≡ map (bound_condition l.scope) (take l.part-index l.parts);
}
