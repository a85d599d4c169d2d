use Rattle.micro_db.proofs.AmongLemmas.{owns-among}
use Rattle.micro_db.proofs.standing.owns.Goals as goal

pub returns : goal.returns
returns g c =
    owns-among (g.N.StoreView.db c.args.after.now) (g.met.N.StoreView.ordered c.args.after.now) c.requires c.args.subject.now c.args.name.now c.owners.result.now c.owners.ensures c.is_among.result c.is_among.ensures
