use Rattle.std.proofs.lemmas.List.Sums.{fold-append}
use Rattle.bind_select.proofs.select.bind_scoped.Goals as goal

-- items, ON, WHERE, GROUP BY and ORDER BY, one after another
pub returns-clause-noted : goal.returns-clause-noted
returns-clause-noted c = rw (
  fold-append,
  fold-append,
  fold-append,
  fold-append,
  c.bind_order-order.ensures.noted,
  c.bind_group-group.ensures.noted,
  c.in_ok-cond.ensures.noted,
  c.bind_join-source.ensures.noted,
  c.in_ok-items.ensures.noted,
  c.is_grouped-grouped.ensures,
)
