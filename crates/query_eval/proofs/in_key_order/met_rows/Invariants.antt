use Rattle.std.specs.List.{AllByRecursion}
use Rattle.own_model.specs.Stored.{rows_at}
use Rattle.query_eval.specs.Met.{IsMet}
use Rattle.query_eval.proofs.in_key_order.met_rows.Given as goal

-- what was looked up last is met, and so is what stands in each place
abbrev pub invariant-loop-number : goal.invariant-loop-number
invariant-loop-number g l =
    let rights = rows_at (g.V.StoreView.db l.fn.view).rows l.fn.tables.right.0 in
    (IsMet l.fn.tables.right_column.0 rights l.last)
    × (AllByRecursion (IsMet l.fn.tables.right_column.0 rights) l.met.items)
