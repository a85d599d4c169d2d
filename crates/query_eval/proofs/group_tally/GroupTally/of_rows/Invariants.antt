use Rattle.std.proofs.Common.{◌≡◌, take}
use Rattle.query_eval.specs.Tally.{tally}
use Rattle.query_eval.proofs.group_tally.GroupTally.of_rows.Given as goal

abbrev pub invariant-loop-row : goal.invariant-loop-row
invariant-loop-row l = l.group ≡ tally l.items (take l.row-index l.rows)
