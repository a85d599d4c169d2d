use Rattle.own_model.specs.Stored.{rows_at}
use Rattle.query_eval.proofs.KeySpans.{narrows_every}
use Rattle.query_eval.proofs.key_range.narrow_by_all.Goals as goal

-- The condition is the AND of its parts.
pub returns-in-Every : goal.returns-in-Every
returns-in-Every g c = narrows_every c.args.definition.now.key.0 (rows_at (g.V.StoreView.db c.args.view.now).rows c.args.table.0) c.args.span c.narrow_by_each.result c.args.cond.now c.in-Every.parts c.items.result.now c.in-Every.is c.items.ensures c.narrow_by_each.ensures
