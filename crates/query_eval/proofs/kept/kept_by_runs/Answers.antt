use Rattle.std.proofs.Common.{◌-◌, ◌<◌, sym, ◌∙◌, subst, arith}
use Rattle.std.proofs.lemmas.Bool.Decides.{nat_tests}
use Rattle.std.specs.Option.{option_copied}
use Rattle.own_model.specs.Stored.{IsRunFrom, rows_at}
use Rattle.query_model.specs.Truth.{keeps}
use Rattle.query_eval.proofs.Runs.{kept_run, run_within}
use Rattle.query_eval.proofs.SpanRows.{first_run, front_gives_none, kept_of_span}
use Rattle.query_eval.proofs.kept.kept_by_runs.Goals as goal

-- nothing before the span is kept
pub loop-at-init : goal.loop-at-init
loop-at-init g c = (c.requires.inside.begins, c.new-kept.ensures ∙ front_gives_none (keeps (option_copied c.args.cond)) (rows_at (g.V.StoreView.db c.args.view.now).rows c.args.table.0) c.args.span c.requires.inside)

-- the rows up to the end of the run are gone through
pub loop-at-preserved : goal.loop-at-preserved
loop-at-preserved g c =
    let before : c.loop-at.at < c.args.span.upto = grind (arith, nat_tests) in
    let run : IsRunFrom (rows_at (g.V.StoreView.db c.args.view.now).rows c.args.table.0) c.loop-at.at c.first_of-run.result.now =
    subst (IsRunFrom (rows_at (g.V.StoreView.db c.args.view.now).rows c.args.table.0) c.loop-at.at) (sym c.first_of-run.ensures) (first_run (rows_at (g.V.StoreView.db c.args.view.now).rows c.args.table.0) c.loop-at.at (c.args.span.upto - c.loop-at.at) c.rows_from.result.now (omega arith) c.rows_from.ensures) in (
      run_within (rows_at (g.V.StoreView.db c.args.view.now).rows c.args.table.0) c.loop-at.at c.first_of-run.result.now c.loop-at.invariant.0 run,
      kept_run (rows_at (g.V.StoreView.db c.args.view.now).rows c.args.table.0) c.loop-at.at c.first_of-run.result.now c.loop-at.invariant.0 run (keeps (option_copied c.args.cond)) c.loop-at.kept c.keep_more.new.kept c.loop-at.invariant.1 c.in_ok-keep_more.ensures,
    )

-- nothing behind the span is kept
pub returns : goal.returns
returns g c = c.loop-at.invariant.1 ∙ kept_of_span (keeps (option_copied c.args.cond)) (rows_at (g.V.StoreView.db c.args.view.now).rows c.args.table.0) c.args.span c.requires.inside c.loop-at.at (grind (arith, nat_tests))
