use Rattle.run_model.specs.Run.{run_bound}
use Rattle.write_eval.specs.Write.{table_of}
use Rattle.write_eval.proofs.Answered.{refused_of, writes_of}
use Rattle.write_eval.proofs.write.write_changes.Goals as goal

pub returns-in-Ok-clause-ok : goal.returns-in-Ok-clause-ok
returns-in-Ok-clause-ok g c =
    writes_of (g.V.StoreView.db c.args.view.now)
    (run_bound (g.V.StoreView.db c.args.view.now) c.args.bound.now)
    (table_of c.args.bound.now) c.in-Ok.answer c.in-Ok.ensures

pub returns-in-Ok-clause-err : goal.returns-in-Ok-clause-err
returns-in-Ok-clause-err g c =
    refused_of (g.V.StoreView.db c.args.view.now)
    (run_bound (g.V.StoreView.db c.args.view.now) c.args.bound.now)
    (table_of c.args.bound.now) c.in-Ok.answer c.in-Ok.ensures
