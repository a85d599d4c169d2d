use Rattle.std.proofs.Common.{◌≡◌, ◌++◌, drop, map, take}
use Rattle.query_eval.specs.Tally.{with_row}
use Rattle.query_eval.proofs.group_tally.GroupTally.add.Given as goal

abbrev pub invariant-loop-item : goal.invariant-loop-item
invariant-loop-item l = l.item-items ≡ map (with_row l.row) (take l.item-index l.initial.item-items) ++ drop l.item-index l.initial.item-items
