use Rattle.std.proofs.Common.{◌≡◌, [], take}
use Rattle.query_eval.specs.Tally.{tally}
use Rattle.query_eval.proofs.group_tally.GroupTally.new.Given as goal

abbrev pub invariant-loop-item : goal.invariant-loop-item
invariant-loop-item l = l.tallies.items ≡ tally (take l.item-index l.items) []
