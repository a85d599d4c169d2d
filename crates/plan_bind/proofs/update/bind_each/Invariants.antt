use Rattle.std.proofs.Common.{◌≡◌, map, take}
use Rattle.std.specs.List.{flat_map}
use Rattle.query_model.specs.WriteFaults.{set_faults}
use Rattle.query_model.specs.WriteMeaning.{bound_expression, column_number}
use Rattle.bind_scope.specs.After.{after}
use Rattle.plan_bind.proofs.update.bind_each.Given as goal

-- the sets so far are bound, and their faults noted
abbrev pub invariant-loop-set : goal.invariant-loop-set
invariant-loop-set l = record {
  bound : l.bound ≡ map (λ set. (column_number l.table set.0, bound_expression l.table set.1)) (take l.set-index l.sets);
  noted : l.least ≡ after l.initial.least (flat_map (set_faults l.table) (take l.set-index l.sets));
}
