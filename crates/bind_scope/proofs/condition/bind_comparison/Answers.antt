use Rattle.std.proofs.lemmas.List.Sums.{fold-append}
use Rattle.bind_scope.proofs.Conditions.{faults-Compare}
use Rattle.bind_scope.proofs.condition.bind_comparison.Goals as goal

-- the left side, the right side, and both together
pub returns-clause-noted : goal.returns-clause-noted
returns-clause-noted c = rw (
  faults-Compare,
  fold-append,
  fold-append,
  c.note_unlike.ensures,
  c.kind.ensures,
  c.bind_column-column.ensures.meant,
  c.in_ok-operand.ensures.kind,
  c.in_ok-operand.ensures.noted,
  c.bind_column-column.ensures.noted,
)
