use Rattle.std.proofs.Common.{arith, ap, ◌∙◌}
use Rattle.own_model.specs.Db.{Db}
use Rattle.link_model.specs.Holds.{holders_at}
use Rattle.query_eval.specs.NamedRows.{rows_named}
use Rattle.query_eval.proofs.HeldRows.{rows-end, rows-more, run_within}
use Rattle.query_eval.proofs.MeetingHolders.{named_holders}
use Rattle.query_eval.proofs.holding.rows_holding.Goals as goal

-- the end of a run is no farther than the number of keys, which fits
pub overflow_add-at : goal.overflow_add-at
overflow_add-at g c =
    omega (arith, run_within (g.V.StoreView.db c.args.view.now).schema (g.V.StoreView.db c.args.view.now).rows c.args.table _ c.holder_count-count.result c.loop-at.at c.loop-at.rows c.add_rows.new.rows c.holders_from-run.result.now c.loop-at.invariant c.holders_from-run.ensures c.in_ok-add_rows.ensures)

pub loop-at-preserved : goal.loop-at-preserved
loop-at-preserved g c =
    rows-more (g.V.StoreView.db c.args.view.now).schema (g.V.StoreView.db c.args.view.now).rows c.args.table _ c.holder_count-count.result c.loop-at.at c.loop-at.rows c.add_rows.new.rows c.holders_from-run.result.now c.loop-at.invariant c.holders_from-run.ensures c.in_ok-add_rows.ensures

-- the rows of all keys are those that hold the value
pub returns : goal.returns
returns g c =
    let db = g.V.StoreView.db c.args.view.now in
    rows-end db.schema db.rows c.args.table _ c.holder_count-count.result c.loop-at.at c.loop-at.rows c.loop-at.invariant c.loop-at-test.false
    ∙ ap (λ (linked : Db). rows_named db.schema db.rows c.args.table (holders_at linked c.args.table.0 c.args.column.0 c.args.value.now)) c.requires.one
    ∙ named_holders db c.args.table c.args.column.0 c.args.value.now c.requires.tables c.requires.there
