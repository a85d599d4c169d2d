-- Whether a condition holds of a row, by the condition's variant.
use Rattle.std.proofs.Common.{◌≡◌, List, Bool, map, sym, ap, ◌∙◌}
use Rattle.own_base.specs.declared.number.ColNo.{ColNo}
use Rattle.own_model.specs.declared.bound.BoundCond.{BoundCond}
use Rattle.own_model.specs.declared.bound.BoundCond.TheFolds.{fold-roll-BoundCond}
use Rattle.own_model.specs.declared.bound.BoundCond.TheOpen.{BoundCond-F}
use Rattle.own_model.specs.declared.bound.BoundCond.TheVariants.{Every, Some1, Not, Compare, IsNull, rolls-Every, rolls-Some1, rolls-Not, rolls-Compare, rolls-IsNull}
use Rattle.own_model.specs.declared.bound.BoundOperand.{BoundOperand}
use Rattle.own_model.specs.declared.condition.Cmp.{Cmp}
use Rattle.own_model.specs.declared.truth.Truth.{Truth}
use Rattle.own_model.specs.Db.{Row}
use Rattle.query_model.specs.Truth.{greatest, least, negation, truth, truth_step}

-- an AND is the least of its parts
pub truth-Every : (row : Row) (parts : List BoundCond) → truth row (Every parts) ≡ least (map (truth row) parts)
unfolding truth
truth-Every row parts = ap (truth row) (sym (rolls-Every parts)) ∙ fold-roll-BoundCond Truth (truth_step row) (BoundCond-F.Every parts)

-- an OR is the greatest of its parts
pub truth-Some1 : (row : Row) (parts : List BoundCond) → truth row (Some1 parts) ≡ greatest (map (truth row) parts)
unfolding truth
truth-Some1 row parts = ap (truth row) (sym (rolls-Some1 parts)) ∙ fold-roll-BoundCond Truth (truth_step row) (BoundCond-F.Some1 parts)

-- NOT exchanges True and False
pub truth-Not : (row : Row) (part : BoundCond) → truth row (Not part) ≡ negation (truth row part)
unfolding truth
truth-Not row part = ap (truth row) (sym (rolls-Not part)) ∙ fold-roll-BoundCond Truth (truth_step row) (BoundCond-F.Not part)

-- a comparison
pub truth-Compare : (row : Row) (column : ColNo) (sign : Cmp) (right : BoundOperand) → truth row (Compare column sign right) ≡ truth_step row (BoundCond-F.Compare column sign right)
unfolding truth
truth-Compare row column sign right = ap (truth row) (sym (rolls-Compare column sign right)) ∙ fold-roll-BoundCond Truth (truth_step row) (BoundCond-F.Compare column sign right)

-- a test for NULL
pub truth-IsNull : (row : Row) (column : ColNo) (negated : Bool) → truth row (IsNull column negated) ≡ truth_step row (BoundCond-F.IsNull column negated)
unfolding truth
truth-IsNull row column negated = ap (truth row) (sym (rolls-IsNull column negated)) ∙ fold-roll-BoundCond Truth (truth_step row) (BoundCond-F.IsNull column negated)

-- whether a condition holds, by its variant
pub ruleset truth_by_variant = (truth-Every, truth-Some1, truth-Not, truth-Compare, truth-IsNull)
