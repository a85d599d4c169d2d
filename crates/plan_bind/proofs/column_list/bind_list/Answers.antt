use Rattle.std.proofs.Common.{arith, sym}
use Rattle.std.proofs.lemmas.Grind.{common_steps}
use Rattle.plan_bind.proofs.Twice.{twice_unknown}
use Rattle.plan_bind.proofs.column_list.bind_list.Goals as goal
use Rattle.plan_bind.proofs.column_list.bind_list.Goals.{then-are_found, else-are_found}

-- by whether each name means a column
pub returns-clause-noted : goal.returns-clause-noted
returns-clause-noted c = elim c.if-are_found.branch [
  | then-are_found w ↦ grind (arith, common_steps)
  | else-are_found w ↦ rw (w.least-is, c.in_ok-columns.ensures.noted)
      (sym (twice_unknown c.args.table.now c.args.names.now c.args.least.now c.in_ok-columns.columns c.in_ok-columns.ensures.found (cc)))
]
