use Rattle.std.specs.Vec.Iter.{into_iter_items}
use Rattle.subject_erase.proofs.PlanSteps.{Planning}
use Rattle.subject_erase.proofs.plan.ErasePlan.of_changes.Given as goal

-- the changes so far are in the plan
abbrev pub invariant-loop-change : goal.invariant-loop-change
invariant-loop-change l = Planning l.fn.changes (into_iter_items l.change-iterator) l.plan
