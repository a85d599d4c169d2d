use Rattle.std.proofs.lemmas.List.{map_more}
use Rattle.query_model.specs.Query.{projected}
use Rattle.query_eval.proofs.shown.shown_rows.Goals as goal

-- a row more is shown
pub loop-row-preserved : goal.loop-row-preserved
loop-row-preserved c =
    let more = map_more (projected c.args.items.now) c.rows-row-items.result.now c.loop-row.row-index c.row-item.result c.loop-row-test.true in
    let this = c.row-item.is in
    let shown = c.in_ok-shown_of.ensures in
    let added = c.in_ok-add.ensures.added in
    cc
