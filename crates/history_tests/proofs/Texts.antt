-- The text of a comparison.
use Rattle.std.proofs.Common.{◌≡◌, sym, ap, ◌∙◌}
use Rattle.own_model.specs.declared.condition.Cmp.{Cmp}
use Rattle.own_model.specs.declared.condition.Cond.TheFolds.{fold-roll-Cond}
use Rattle.own_model.specs.declared.condition.Cond.TheOpen.{Cond-F}
use Rattle.own_model.specs.declared.condition.Cond.TheVariants.{Compare, rolls-Compare}
use Rattle.own_model.specs.declared.condition.Operand.{Operand}
use Rattle.own_model.specs.declared.select.ColRef.{ColRef}
use Rattle.text_model.specs.Condition.{Written, written, written_step}

pub written_as_compared : (left : ColRef) (sign : Cmp) (right : Operand) → written (Compare left sign right) ≡ written_step (Cond-F.Compare left sign right)
unfolding written
written_as_compared left sign right = ap written (sym (rolls-Compare left sign right)) ∙ fold-roll-Cond Written written_step (Cond-F.Compare left sign right)
