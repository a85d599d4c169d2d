use Rattle.std.proofs.Common.{◌∙◌, subst}
use Rattle.txn_space.specs.Changed.{changed_db}
use Rattle.txn_core.specs.declared.txn.Txn.{Txn}
use Rattle.txn_core.specs.Runs.{HasRun}
use Rattle.txn_core.proofs.NoMemory.{never_memory}
use Rattle.txn_core.proofs.txn.Txn.run_in_copy.Goals as goal

-- what runs in the copy runs over what the transaction changed
pub returns-clause-ran : goal.returns-clause-ran
returns-clause-ran g c =
    subst (λ (before : Txn). HasRun (g.V.StoreView.db c.args.version.now) c.args.bound.now before.space c.in_ok-reply.reply c.run.new.self.space) c.in_ok-txn.ensures c.in_ok-reply.ensures.ran

pub returns-clause-told : goal.returns-clause-told
returns-clause-told g c = λ is.
    let db = g.V.StoreView.db c.args.version.now in
    never_memory (changed_db db c.in_ok-txn.txn.space) db.schema c.args.bound.now c.requires.bound (c.in_ok-reply.ensures.ran.told ∙ is)
