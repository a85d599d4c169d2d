use Rattle.std.proofs.Common.{◌≡◌, map, take}
use Rattle.write_eval.specs.Updates.{replacement}
use Rattle.write_eval.proofs.update.replacements.Given as goal

-- the changes of the rows so far
abbrev pub invariant-loop-row : goal.invariant-loop-row
invariant-loop-row l = l.changes ≡ map (replacement l.number l.table l.sets) (map (λ row. row.now) (take l.row-index l.rows))
