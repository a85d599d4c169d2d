use Rattle.own_model.specs.Stored.{rows_at}
use Rattle.view_deltas.specs.Inserted.{inserted}
use Rattle.view_deltas.proofs.InsertLemmas.{made_next}
use Rattle.view_deltas.proofs.inserted.inserts.Goals as goal

-- The row at the place is put behind those before it.
pub loop-at-preserved : goal.loop-at-preserved
loop-at-preserved g c =
    made_next (inserted c.args.table c.definition_of-definition.result.now) (rows_at (g.V.StoreView.db c.args.view.now).rows c.args.table.0) c.loop-at.at c.row_at-row.result.now c.loop-at.changes c.add.new.self c.in_ok-inserted.field-0
    c.row_at-row.ensures c.in_ok-inserted.ensures c.in_ok-add.ensures.added c.loop-at.invariant
