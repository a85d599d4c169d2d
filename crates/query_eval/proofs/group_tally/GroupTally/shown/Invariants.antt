use Rattle.std.proofs.Common.{◌≡◌, map, take}
use Rattle.query_eval.specs.Tally.{shown_tally}
use Rattle.query_eval.proofs.group_tally.GroupTally.shown.Given as goal

abbrev pub invariant-loop-item : goal.invariant-loop-item
invariant-loop-item l = l.shown ≡ map (shown_tally l.value) (take l.item-index l.item-items)
