use Rattle.std.proofs.Common.{arith}
use Rattle.own_model.specs.Stored.{rows_at}
use Rattle.disk_model.specs.Bounds.{IsTypedRow, IsShortRow}
use Rattle.disk_model.specs.Spelling.{row_spelling}
use Rattle.check_image.proofs.Runs.{run_holds, run_typed, run_within, run_written}
use Rattle.check_image.proofs.tables.write_rows.Goals as goal

-- what a run is asked to be
pub write_items-requires : goal.write_items-requires
write_items-requires g c =
    (run_holds (rows_at (g.V.StoreView.db c.args.view.now).rows c.args.table.0) c.loop-at.at c.rows_from-run.result.now c.rows_from-run.ensures IsShortRow c.loop-at.invariant.3).0

-- the end of a run is no farther than the number of rows, which fits
pub overflow_add-at : goal.overflow_add-at
overflow_add-at g c =
    let more = run_within _ c.loop-at.at c.rows_from-run.result.now c.rows_from-run.ensures (omega arith) in
    omega (arith, more)

-- the rows up to the end of the run are written
pub loop-at-preserved : goal.loop-at-preserved
loop-at-preserved g c =
    let rows = rows_at (g.V.StoreView.db c.args.view.now).rows c.args.table.0 in
    let run = c.rows_from-run.result.now in
    let more = run_within rows c.loop-at.at run c.rows_from-run.ensures (omega arith) in (
      c.loop-at.invariant.0,
      omega (arith, more),
      run_written rows c.loop-at.at run c.rows_from-run.ensures row_spelling c.loop-at.out.items c.write_items.new.out.items _ c.in_ok-write_items.ensures.written c.loop-at.invariant.2,
      (run_holds rows c.loop-at.at run c.rows_from-run.ensures IsShortRow c.loop-at.invariant.3).1,
      run_typed rows c.loop-at.at run c.rows_from-run.ensures IsTypedRow c.in_ok-write_items.ensures.typed c.loop-at.invariant.4,
    )
