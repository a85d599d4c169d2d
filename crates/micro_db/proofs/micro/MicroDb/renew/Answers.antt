use Rattle.micro_db.proofs.RenewLemmas.{renews-put}
use Rattle.micro_db.proofs.StandingSame.{copy_named, sight_named}
use Rattle.micro_db.proofs.micro.MicroDb.renew.Goals as goal

pub put-requires : goal.put-requires
put-requires g c = copy_named (g.N.StoreView.db c.args.after.now) c.args.subject.now.0 c.args.name.now c.in_ok-copy.copy c.in_ok-copy.ensures

pub put-requires-2 : goal.put-requires-2
put-requires-2 g c = sight_named (g.N.StoreView.db c.args.after.now) c.args.subject.now.0 c.args.name.now c.in_ok-seen.seen c.in_ok-seen.ensures

pub returns : goal.returns
returns g c =
    renews-put (g.N.StoreView.db c.args.after.now) c.args.subject.now c.args.name.now c.args.self.now (record { shelves = c.put.new.self; seen = c.put-2.new.self }) c.in_ok-copy.copy c.in_ok-seen.seen c.in_ok-copy.ensures c.in_ok-seen.ensures
    c.in_ok-put.ensures c.in_ok-put-2.ensures
