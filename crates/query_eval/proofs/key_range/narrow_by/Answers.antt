use Rattle.own_model.specs.Stored.{rows_at}
use Rattle.query_eval.proofs.KeySpans.{narrows_compare}
use Rattle.query_eval.proofs.key_range.narrow_by.Goals as goal

-- The condition is that comparison.
pub returns-in-Compare : goal.returns-in-Compare
returns-in-Compare g c =
    narrows_compare c.args.definition.now.key.0 (rows_at (g.V.StoreView.db c.args.view.now).rows c.args.table.0) c.args.span c.narrow_by_operand.result c.args.part.now c.in-Compare.column c.in-Compare.sign c.in-Compare.right c.in-Compare.is c.narrow_by_operand.ensures
