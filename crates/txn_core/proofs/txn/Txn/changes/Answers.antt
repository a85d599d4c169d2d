use Rattle.txn_core.proofs.NetNames.{net_unchanged}
use Rattle.txn_core.proofs.txn.Txn.changes.Goals as goal

pub returns-then-not-self-clause-net : goal.returns-then-not-self-clause-net
returns-then-not-self-clause-net g c =
    net_unchanged (g.V.StoreView.db c.args.version.now) c.args.self.now.space c.new.result c.requires.base (c.requires.quiet c.if-not-self.true) c.new.ensures
