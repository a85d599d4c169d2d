use Rattle.std.proofs.Common.{subst, sym}
use Rattle.std.proofs.lemmas.Result.{IfOk-weaker}
use Rattle.own_model.specs.declared.bound.Bound.{Bound}
use Rattle.txn_core.specs.Runs.{HasRun}
use Rattle.txn_core.proofs.Runs.{has_read}
use Rattle.txn_core.proofs.running.run_in.Goals as goal

pub returns-in-Select-clause-ran : goal.returns-in-Select-clause-ran
returns-in-Select-clause-ran g c =
    let db = g.V.StoreView.db c.args.version.now in
    IfOk-weaker c.read_in.result _ _
    (λ reply is.
    subst (λ (bound : Bound). HasRun db bound c.args.space.now reply c.args.space.now) (sym c.in-Select.is)
    (has_read db c.args.space.now c.requires.store c.requires.space c.requires.rows c.in-Select.query reply is))
    c.read_in.ensures
