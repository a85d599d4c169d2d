use Rattle.std.proofs.Common.{ap, false, rules, true, ◌∙◌}
use Rattle.std.proofs.lemmas.Result.{on_ok_weaker}
use Rattle.query_model.specs.Order.{ordered_by}
use Rattle.query_eval.proofs.SortedByColumn.{sorted_falling, sorted_rising}
use Rattle.query_eval.proofs.lent_rows.LentRows.sort.Goals as goal

-- the sort is stable, and its keys are what stands in the column
pub returns-then-down : goal.returns-then-down
returns-then-down c =
    rw c.if-down.true
    (on_ok_weaker c.sort_by_cached_key.result
    (λ sorts. sorted_falling c.args.column.0 c.self.inside.rows.items c.sort_by_cached_key.new.self.items sorts c.sort_by_cached_key.ensures.stable (λ a r q k. search rules)
    ∙ ap (ordered_by c.args.column.0 true) c.self.view_is)
    c.sort_by_cached_key.ensures.sorted)

pub returns-else-down : goal.returns-else-down
returns-else-down c =
    rw c.if-down.false
    (on_ok_weaker c.sort_by_cached_key-else-down.result
    (λ sorts. sorted_rising c.args.column.0 c.self.inside.rows.items c.sort_by_cached_key-else-down.new.self.items sorts c.sort_by_cached_key-else-down.ensures.stable (λ a r q k. search rules)
    ∙ ap (ordered_by c.args.column.0 false) c.self.view_is)
    c.sort_by_cached_key-else-down.ensures.sorted)
