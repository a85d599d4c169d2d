use Rattle.own_model.specs.Stored.{rows_at}
use Rattle.query_eval.proofs.KeySpans.{narrows_part}
use Rattle.query_eval.proofs.key_range.narrow_by_each.Goals as goal

-- Where the AND is True, so is this part.
pub loop-part-preserved : goal.loop-part-preserved
loop-part-preserved g c =
    narrows_part c.args.definition.now.key.0 c.args.parts.now (rows_at (g.V.StoreView.db c.args.view.now).rows c.args.table.0) c.args.span c.loop-part.left c.narrow_by-left.result c.loop-part.part-index c.part-item.result c.loop-part-test.true c.part-item.is c.loop-part.invariant c.narrow_by-left.ensures
