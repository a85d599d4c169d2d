use Rattle.std.proofs.Common.{◌≡◌, ◌+◌, take}
use Rattle.std.specs.Prelude.{sum_by}
use Rattle.commit_check.specs.Saturated.{saturated}
use Rattle.own_base.specs.declared.row.TheConstants.{ROW_SIZE}
use Rattle.state_model.specs.Weight.{item_size}
use Rattle.commit_check.proofs.weight.shown_size.Given as goal

-- the items so far are counted
abbrev pub invariant-loop-item : goal.invariant-loop-item
invariant-loop-item l = l.size ≡ saturated (ROW_SIZE + sum_by (item_size l.row) (take l.item-index l.items))
