use Rattle.std.proofs.Common.{◌≡◌, map, take}
use Rattle.write_eval.specs.Deletions.{deletion}
use Rattle.write_eval.proofs.delete.deletions.Given as goal

-- the changes of the rows so far
abbrev pub invariant-loop-row : goal.invariant-loop-row
invariant-loop-row l = l.changes ≡ map (deletion l.number l.table) (map (λ row. row.now) (take l.row-index l.rows))
