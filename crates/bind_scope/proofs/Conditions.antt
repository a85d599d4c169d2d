-- The faults and the meaning of a condition, by its variant.
use Rattle.std.proofs.Common.{◌≡◌, List, ◌++◌, Bool, map, sym, ap, ◌∙◌}
use Rattle.std.specs.List.{flat_map}
use Rattle.std.proofs.lemmas.List.Folds.{flat_map-map}
use Rattle.own_model.specs.declared.bound.BoundCond.{BoundCond}
use Rattle.own_model.specs.declared.bound.BoundCond.TheVariants as bound
use Rattle.own_model.specs.declared.condition.Cmp.{Cmp}
use Rattle.own_model.specs.declared.condition.Cond.{Cond}
use Rattle.own_model.specs.declared.condition.Cond.TheOpen.{Cond-F}
use Rattle.own_model.specs.declared.condition.Cond.TheFolds.{fold-roll-Cond}
use Rattle.own_model.specs.declared.condition.Cond.TheVariants.{Every, Some1, Not, Compare, IsNull, rolls-Every, rolls-Some1, rolls-Not, rolls-Compare, rolls-IsNull}
use Rattle.own_model.specs.declared.condition.Operand.{Operand}
use Rattle.own_model.specs.declared.refusal.Refusal.{Refusal}
use Rattle.own_model.specs.declared.select.ColRef.{ColRef}
use Rattle.query_model.specs.ConditionFaults.{bound_condition, bound_operand, bound_step, column_no, condition_faults, fault_step, kind_meant, operand_faults, operand_kind, unlike}
use Rattle.query_model.specs.Scope.{Scope, no_column}

-- the faults of an AND list
pub faults-Every : (scope : Scope) (parts : List Cond) → condition_faults scope (Every parts) ≡ flat_map (condition_faults scope) parts
unfolding condition_faults
faults-Every scope parts = ap (condition_faults scope) (sym (rolls-Every parts)) ∙ fold-roll-Cond (List Refusal) (fault_step scope) (Cond-F.Every parts)
    ∙ flat_map-map (λ faults. faults) (condition_faults scope) parts

-- those of an OR list
pub faults-Some1 : (scope : Scope) (parts : List Cond) → condition_faults scope (Some1 parts) ≡ flat_map (condition_faults scope) parts
unfolding condition_faults
faults-Some1 scope parts = ap (condition_faults scope) (sym (rolls-Some1 parts)) ∙ fold-roll-Cond (List Refusal) (fault_step scope) (Cond-F.Some1 parts)
    ∙ flat_map-map (λ faults. faults) (condition_faults scope) parts

-- those of NOT and a part
pub faults-Not : (scope : Scope) (part : Cond) → condition_faults scope (Not part) ≡ condition_faults scope part
unfolding condition_faults
faults-Not scope part = ap (condition_faults scope) (sym (rolls-Not part)) ∙ fold-roll-Cond (List Refusal) (fault_step scope) (Cond-F.Not part)

-- those of a comparison
pub faults-Compare : (scope : Scope) (left : ColRef) (sign : Cmp) (right : Operand)
    → condition_faults scope (Compare left sign right) ≡ no_column scope left ++ operand_faults scope right ++ unlike left (kind_meant scope left) (operand_kind scope right)
unfolding condition_faults
faults-Compare scope left sign right = ap (condition_faults scope) (sym (rolls-Compare left sign right)) ∙ fold-roll-Cond (List Refusal) (fault_step scope) (Cond-F.Compare left sign right)

-- those of a test for NULL
pub faults-IsNull : (scope : Scope) (column : ColRef) (negated : Bool) → condition_faults scope (IsNull column negated) ≡ no_column scope column
unfolding condition_faults
faults-IsNull scope column negated = ap (condition_faults scope) (sym (rolls-IsNull column negated)) ∙ fold-roll-Cond (List Refusal) (fault_step scope) (Cond-F.IsNull column negated)

-- the meaning of an AND list
pub bound-Every : (scope : Scope) (parts : List Cond) → bound_condition scope (Every parts) ≡ bound.Every (map (bound_condition scope) parts)
unfolding bound_condition
bound-Every scope parts = ap (bound_condition scope) (sym (rolls-Every parts)) ∙ fold-roll-Cond BoundCond (bound_step scope) (Cond-F.Every parts)

-- that of an OR list
pub bound-Some1 : (scope : Scope) (parts : List Cond) → bound_condition scope (Some1 parts) ≡ bound.Some1 (map (bound_condition scope) parts)
unfolding bound_condition
bound-Some1 scope parts = ap (bound_condition scope) (sym (rolls-Some1 parts)) ∙ fold-roll-Cond BoundCond (bound_step scope) (Cond-F.Some1 parts)

-- that of NOT and a part
pub bound-Not : (scope : Scope) (part : Cond) → bound_condition scope (Not part) ≡ bound.Not (bound_condition scope part)
unfolding bound_condition
bound-Not scope part = ap (bound_condition scope) (sym (rolls-Not part)) ∙ fold-roll-Cond BoundCond (bound_step scope) (Cond-F.Not part)

-- that of a comparison
pub bound-Compare : (scope : Scope) (left : ColRef) (sign : Cmp) (right : Operand)
    → bound_condition scope (Compare left sign right) ≡ bound.Compare (column_no scope left) sign (bound_operand scope right)
unfolding bound_condition
bound-Compare scope left sign right = ap (bound_condition scope) (sym (rolls-Compare left sign right)) ∙ fold-roll-Cond BoundCond (bound_step scope) (Cond-F.Compare left sign right)

-- that of a test for NULL
pub bound-IsNull : (scope : Scope) (column : ColRef) (negated : Bool) → bound_condition scope (IsNull column negated) ≡ bound.IsNull (column_no scope column) negated
unfolding bound_condition
bound-IsNull scope column negated = ap (bound_condition scope) (sym (rolls-IsNull column negated)) ∙ fold-roll-Cond BoundCond (bound_step scope) (Cond-F.IsNull column negated)

-- a condition by its variant
pub ruleset conditions = (
  faults-Every,
  faults-Some1,
  faults-Not,
  faults-Compare,
  faults-IsNull,
  bound-Every,
  bound-Some1,
  bound-Not,
  bound-Compare,
  bound-IsNull,
)
