-- What a comparison means, as binding, footprints and rows compute with it.
use Rattle.std.proofs.Common.{◌≡◌, List, sym, ap, ◌∙◌, ℕ}
use Rattle.own_base.specs.declared.number.ColNo.{ColNo}
use Rattle.own_model.specs.declared.bound.BoundCond.{BoundCond}
use Rattle.own_model.specs.declared.bound.BoundCond.TheFolds.{fold-roll-BoundCond}
use Rattle.own_model.specs.declared.bound.BoundCond.TheOpen.{BoundCond-F}
use Rattle.own_model.specs.declared.bound.BoundCond.TheVariants as bound
use Rattle.own_model.specs.declared.bound.BoundOperand.{BoundOperand}
use Rattle.own_model.specs.declared.condition.Cmp.{Cmp}
use Rattle.own_model.specs.declared.condition.Cond.TheFolds.{fold-roll-Cond}
use Rattle.own_model.specs.declared.condition.Cond.TheOpen.{Cond-F}
use Rattle.own_model.specs.declared.condition.Cond.TheVariants.{Compare, rolls-Compare}
use Rattle.own_model.specs.declared.condition.Operand.{Operand}
use Rattle.own_model.specs.declared.refusal.Refusal.{Refusal}
use Rattle.own_model.specs.declared.select.ColRef.{ColRef}
use Rattle.own_model.specs.declared.truth.Truth.{Truth}
use Rattle.own_model.specs.Db.{Row}
use Rattle.query_model.specs.ConditionFaults.{bound_condition, bound_step, condition_faults, fault_step}
use Rattle.query_model.specs.Footprints.{Pinned, pinned_by, pinned_step}
use Rattle.query_model.specs.Scope.{Scope}
use Rattle.query_model.specs.Truth.{truth, truth_step}

pub faults_are : (scope : Scope) (left : ColRef) (sign : Cmp) (right : Operand)
    → condition_faults scope (Compare left sign right) ≡ fault_step scope (Cond-F.Compare left sign right)
unfolding condition_faults
faults_are scope left sign right = ap (condition_faults scope) (sym (rolls-Compare left sign right)) ∙ fold-roll-Cond (List Refusal) (fault_step scope) (Cond-F.Compare left sign right)

pub means : (scope : Scope) (left : ColRef) (sign : Cmp) (right : Operand)
    → bound_condition scope (Compare left sign right) ≡ bound_step scope (Cond-F.Compare left sign right)
unfolding bound_condition
means scope left sign right = ap (bound_condition scope) (sym (rolls-Compare left sign right)) ∙ fold-roll-Cond BoundCond (bound_step scope) (Cond-F.Compare left sign right)

pub pins : (key_column : ℕ) (column : ColNo) (sign : Cmp) (right : BoundOperand)
    → pinned_by key_column (bound.Compare column sign right) ≡ (pinned_step key_column (BoundCond-F.Compare column sign right)).whole
unfolding pinned_by
pins key_column column sign right = ap (pinned_by key_column) (sym (bound.rolls-Compare column sign right))
    ∙ ap (λ pinned. pinned.whole) (fold-roll-BoundCond Pinned (pinned_step key_column) (BoundCond-F.Compare column sign right))

pub holds : (row : Row) (column : ColNo) (sign : Cmp) (right : BoundOperand)
    → truth row (bound.Compare column sign right) ≡ truth_step row (BoundCond-F.Compare column sign right)
unfolding truth
holds row column sign right = ap (truth row) (sym (bound.rolls-Compare column sign right)) ∙ fold-roll-BoundCond Truth (truth_step row) (BoundCond-F.Compare column sign right)

pub ruleset conditions = (faults_are, means, pins, holds)
