use Rattle.std.proofs.Common.{◌≡◌, ◌+◌, take}
use Rattle.std.specs.Prelude.{sum_by}
use Rattle.commit_check.specs.Saturated.{saturated}
use Rattle.own_base.specs.Row.{value_size}
use Rattle.own_base.specs.declared.row.TheConstants.{ROW_SIZE}
use Rattle.commit_check.proofs.weight.row_size.Given as goal

-- the values so far are counted
abbrev pub invariant-loop-value : goal.invariant-loop-value
invariant-loop-value l = l.size ≡ saturated (ROW_SIZE + sum_by value_size (take l.value-index l.value-items))
