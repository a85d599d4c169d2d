use Rattle.micro_db.proofs.LookedLemmas.{looked}
use Rattle.micro_db.proofs.looked.looked_at.Goals as goal

pub returns : goal.returns
returns g c =
    looked (g.N.StoreView.db c.args.after.now) c.args.moves.now c.args.changes.now c.in_ok-names.names c.add_below_moved.new.names c.tidied.result
    c.in_ok-names.ensures c.in_ok-add_below_moved.ensures c.tidied.ensures
