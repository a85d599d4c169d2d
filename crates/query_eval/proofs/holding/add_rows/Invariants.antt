use Rattle.std.proofs.Common.{◌≡◌, ◌++◌, map, take}
use Rattle.query_eval.specs.NamedRows.{rows_named}
use Rattle.query_eval.proofs.holding.add_rows.Given as goal

-- the rows of the entries so far are there
abbrev pub invariant-loop-entry : goal.invariant-loop-entry
invariant-loop-entry g l = l.rows ≡ l.fn.rows ++ rows_named (g.V.StoreView.db l.view).schema (g.V.StoreView.db l.view).rows l.table (map (λ entry. entry.1) (take l.entry-index l.entries))
