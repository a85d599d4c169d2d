use Rattle.std.proofs.Common.{ap, ◌∙◌, rules}
use Rattle.query_model.specs.Order.{ordered_by}
use Rattle.query_eval.proofs.SortedByColumn.{rows_in_order}
use Rattle.query_eval.proofs.in_order.sorted_rows.Goals as goal

-- the sort is stable, and each call of its closure compares two rows by the column
pub returns : goal.returns
returns c =
    c.from_vec.ensures
    ∙ rows_in_order c.args.column.0 c.args.down c.into_vec-rows.result.items c.sort_by.new.self.items c.in_ok-sort_by.ensures.sorted c.in_ok-sort_by.ensures.stable (λ a r q k. search rules)
    ∙ ap (ordered_by c.args.column.0 c.args.down) c.into_vec-rows.ensures
