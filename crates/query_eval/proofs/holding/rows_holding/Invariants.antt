use Rattle.std.proofs.Common.{◌-◌}
use Rattle.link_model.specs.Holds.{holders_at}
use Rattle.query_eval.proofs.HeldRows.{RowsSoFar}
use Rattle.query_eval.proofs.holding.rows_holding.Given as goal

-- the rows of the keys before the place are there
abbrev pub invariant-loop-at : goal.invariant-loop-at
invariant-loop-at g l = RowsSoFar (g.V.StoreView.db l.view).schema (g.V.StoreView.db l.view).rows l.table (holders_at (g.V.Referring.linked l.view) l.table.0 l.column.0 l.value) l.count l.at l.rows

abbrev pub decreases-loop-at : goal.decreases-loop-at
decreases-loop-at g l = l.count - l.at
