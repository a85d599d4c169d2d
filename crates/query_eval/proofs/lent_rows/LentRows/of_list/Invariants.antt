use Rattle.std.proofs.Common.{◌≡◌, map, take}
use Rattle.query_eval.proofs.lent_rows.LentRows.of_list.Given as goal

-- the rows so far
abbrev pub invariant-loop-row : goal.invariant-loop-row
invariant-loop-row l = l.lent ≡ map (λ row. row.now) (take l.row-index l.row-items)
