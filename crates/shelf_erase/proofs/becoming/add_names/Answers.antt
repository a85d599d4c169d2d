use Rattle.shelf_erase.specs.ChangeAt.{change_at}
use Rattle.shelf_erase.proofs.ShelfPlaces.{IsNameAt, all-named, one-named}
use Rattle.shelf_erase.proofs.ToldLemmas.{first-more, first-start}
use Rattle.shelf_erase.proofs.becoming.add_names.Goals as goal

pub loop-name-init : goal.loop-name-init
loop-name-init g c = first-start (change_at (g.V.StoreView.db c.args.view.now) c.args.subject.now.0) (IsNameAt c.args.names.now) c.args.changes.now

pub loop-name-preserved : goal.loop-name-preserved
loop-name-preserved g c =
    let wanted = change_at (g.V.StoreView.db c.args.view.now) c.args.subject.now.0 in
    first-more wanted (IsNameAt c.args.names.now) c.loop-name.name-index c.args.changes.now c.loop-name.changes c.add_named.new.changes c.loop-name.invariant
    (one-named wanted c.args.names.now c.loop-name.name-index c.name-item.result c.loop-name.changes c.add_named.new.changes c.loop-name-test.true c.name-item.is c.in_ok-add_named.ensures)

pub returns : goal.returns
returns g c =
    all-named (change_at (g.V.StoreView.db c.args.view.now) c.args.subject.now.0) c.args.names.now c.loop-name.name-index c.args.changes.now c.loop-name.changes c.loop-name-test.false c.loop-name.invariant
