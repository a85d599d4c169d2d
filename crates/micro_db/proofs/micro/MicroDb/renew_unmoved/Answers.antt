use Rattle.micro_db.proofs.RenewLemmas.{renews-none}
use Rattle.micro_db.proofs.micro.MicroDb.renew_unmoved.Goals as goal

pub returns-then-has_moved : goal.returns-then-has_moved
returns-then-has_moved g c = renews-none (g.N.StoreView.db c.args.after.now) c.args.moves.now c.args.subject.now c.args.name.now c.args.self.now (c.has_moved.ensures c.if-has_moved.true)
