use Rattle.write_eval.proofs.GivenTuples.{refused_at}
use Rattle.write_eval.proofs.insert.give_each.Goals as goal

-- the first key that is taken
pub returns-in-Some : goal.returns-in-Some
returns-in-Some g c =
    refused_at (g.V.StoreView.db c.args.view.now).schema (g.V.StoreView.db c.args.view.now).rows c.args.number c.args.table.now c.args.tuples.now
    c.loop-tuple.tuple-index c.tuple-item.result c.loop-tuple.given.entries c.in-Some.key c.loop-tuple-test.true c.tuple-item.is c.loop-tuple.invariant
    (rw c.in-Some.is at c.in_ok-key.ensures)
