use Rattle.std.proofs.Common.{◌≡◌, ◌+◌, take}
use Rattle.std.specs.List.{sum_by}
use Rattle.own_base.specs.declared.row.TheConstants.{ROW_SIZE}
use Rattle.own_base.specs.Row.{value_size}
use Rattle.own_base.proofs.row.Row.size.Given as goal

-- the sizes so far are counted
abbrev pub invariant-loop-value : goal.invariant-loop-value
invariant-loop-value l = l.size ≡ ROW_SIZE + sum_by value_size (take l.value-index l.value-items)
