use Rattle.std.proofs.Common.{◌+◌, ◌<◌, ◌≤◌, ap, ◌∙◌, arith, sym, take}
use Rattle.std.proofs.lemmas.Bool.Decides.{nat_tests}
use Rattle.std.proofs.lemmas.List.{take_all}
use Rattle.std.specs.List.{filter}
use Rattle.std.specs.Option.{option_copied}
use Rattle.query_model.specs.Truth.{keeps}
use Rattle.query_eval.proofs.Runs.{kept_run, run_within}
use Rattle.view_deltas.specs.RunRows.{run_rows}
use Rattle.view_select.proofs.ShownRuns.{counted, lent, rows_of}
use Rattle.view_select.proofs.kept.kept_in_view.Goals as goal

-- the run ends within the view, whose rows are counted
pub overflow_add-at : goal.overflow_add-at
overflow_add-at g c =
    let db = g.V.StoreView.db c.args.store.now in
    let count = counted db c.args.views.now c.args.number c.requires.well_formed c.requires.shows c.view_count-count.result c.view_count-count.ensures in
    let run = lent db c.args.views.now c.args.number c.requires.well_formed c.requires.shows c.loop-at.at (run_rows c.view_from-run.result) c.view_from-run.ensures in
    let within = run_within (rows_of db c.args.number) c.loop-at.at (run_rows c.view_from-run.result) c.loop-at.invariant.0 run in
    let long = c.len.ensures in
    omega (arith, count, within, long)

-- a run that begins at a row isn't empty
pub loop-at-smaller : goal.loop-at-smaller
loop-at-smaller g c =
    let db = g.V.StoreView.db c.args.store.now in
    let count = counted db c.args.views.now c.args.number c.requires.well_formed c.requires.shows c.view_count-count.result c.view_count-count.ensures in
    let run = lent db c.args.views.now c.args.number c.requires.well_formed c.requires.shows c.loop-at.at (run_rows c.view_from-run.result) c.view_from-run.ensures in
    let before : c.loop-at.at < c.view_count-count.result = grind (arith, nat_tests) in
    let some = run.some (omega (arith, before, count)) in
    let long = c.len.ensures in
    omega (arith, before, some, long)

-- the rows up to the end of the run are gone through
pub loop-at-preserved : goal.loop-at-preserved
loop-at-preserved g c =
    let db = g.V.StoreView.db c.args.store.now in
    let shown = run_rows c.view_from-run.result in
    let run = lent db c.args.views.now c.args.number c.requires.well_formed c.requires.shows c.loop-at.at shown c.view_from-run.ensures in
    let long = c.len.ensures in
    let within = run_within (rows_of db c.args.number) c.loop-at.at shown c.loop-at.invariant.0 run in
    let kept = kept_run (rows_of db c.args.number) c.loop-at.at shown c.loop-at.invariant.0 run (keeps (option_copied c.args.cond)) c.loop-at.kept c.keep_run.new.kept c.loop-at.invariant.1 c.in_ok-keep_run.ensures in (
      omega (arith, within, long),
      kept ∙ ap (λ n. filter (keeps (option_copied c.args.cond)) (take (c.loop-at.at + n) (rows_of db c.args.number))) (sym long),
    )

-- behind the last run all are
pub returns : goal.returns
returns g c =
    let db = g.V.StoreView.db c.args.store.now in
    let count = counted db c.args.views.now c.args.number c.requires.well_formed c.requires.shows c.view_count-count.result c.view_count-count.ensures in
    let past : c.view_count-count.result ≤ c.loop-at.at = grind (arith, nat_tests) in
    c.loop-at.invariant.1 ∙ ap (filter (keeps (option_copied c.args.cond))) (take_all c.loop-at.at (rows_of db c.args.number) (omega (arith, past, count)))
