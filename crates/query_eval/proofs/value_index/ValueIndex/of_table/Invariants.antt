use Rattle.std.proofs.Common.{◌≡◌, ◌++◌, List}
use Rattle.own_model.specs.Db.{Row}
use Rattle.own_model.specs.Stored.{rows_at}
use Rattle.query_eval.specs.ByValue.{by_value}
use Rattle.query_eval.specs.TableRows.{rows_left}
use Rattle.query_eval.proofs.value_index.ValueIndex.of_table.Given as goal

abbrev pub invariant-loop-row : goal.invariant-loop-row
invariant-loop-row g l =
    (done : List Row)
    × (done ++ rows_left l.row-iterator.run.now l.row-iterator.behind (rows_at (g.V.StoreView.db l.row-iterator.view.now).rows l.row-iterator.table.0) ≡ rows_at (g.V.StoreView.db l.fn.view).rows l.fn.table.0)
    × (l.index.column ≡ l.fn.column)
    × (l.index.rows.entries ≡ by_value (λ rows. rows) l.fn.column.0 done)
