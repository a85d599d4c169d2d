use Rattle.std.proofs.Common.{◌-◌}
use Rattle.own_model.specs.Stored.{rows_at}
use Rattle.query_eval.proofs.CandidateLemmas.{RowsUpto}
use Rattle.query_eval.proofs.candidates.rows_in.Given as goal

-- the rows before the place are there
abbrev pub invariant-loop-at : goal.invariant-loop-at
invariant-loop-at g l = RowsUpto (rows_at (g.V.StoreView.db l.view).rows l.table.0) l.span l.at l.rows

abbrev pub decreases-loop-at : goal.decreases-loop-at
decreases-loop-at g l = l.span.upto - l.at
