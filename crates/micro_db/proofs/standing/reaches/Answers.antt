use Rattle.micro_db.proofs.AmongLemmas.{reaches-among}
use Rattle.micro_db.proofs.standing.reaches.Goals as goal

pub returns : goal.returns
returns g c =
    reaches-among (g.N.StoreView.db c.args.after.now) (g.met.N.StoreView.ordered c.args.after.now) c.requires c.args.subject.now c.args.name.now c.reach.result.now c.reach.ensures c.is_among.result c.is_among.ensures
