use Rattle.std.proofs.Common.{sym}
use Rattle.shelf_erase.specs.ChangeAt.{change_at}
use Rattle.shelf_erase.proofs.ShelfPlaces.{change-none}
use Rattle.shelf_erase.proofs.ToldLemmas.{tells-nothing}
use Rattle.shelf_erase.proofs.becoming.add_named.Goals as goal

pub returns-in-None : goal.returns-in-None
returns-in-None g c =
    let db = g.V.StoreView.db c.args.view.now in
    tells-nothing (change_at db c.args.subject.now.0) c.args.name.now c.args.changes.now (change-none db c.args.subject.now.0 c.args.name.now (sym c.in-None.ensures))
