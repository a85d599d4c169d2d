use Rattle.std.proofs.Common.{◌∙◌}
use Rattle.state_model.proofs.CreatedSchema.{owner_schema-created}
use Rattle.shelf_erase.specs.ChangeAt.{change_at}
use Rattle.shelf_erase.proofs.ShelfPlaces.{IsShelved, all-shelved, one-shelved, own-copy}
use Rattle.shelf_erase.proofs.ToldLemmas.{first-more, first-start}
use Rattle.shelf_erase.proofs.becoming.add_shelf.Goals as goal

pub loop-copy-init : goal.loop-copy-init
loop-copy-init g c = first-start (change_at (g.V.StoreView.db c.args.view.now) c.args.subject.now.0) (IsShelved c.args.shelf.now) c.args.changes.now

pub add_row-requires-clause-row : goal.add_row-requires-clause-row
add_row-requires-clause-row g c =
    let db = g.V.StoreView.db c.args.view.now in
    (own-copy db c.args.subject.now.0 c.requires.sound.well_formed.ordered (owner_schema-created db c.requires.sound.well_formed.created) c.args.shelf.now c.loop-copy.copy-index c.copy-item.result c.requires.shelf c.loop-copy-test.true c.copy-item.is).row

pub loop-copy-preserved : goal.loop-copy-preserved
loop-copy-preserved g c =
    let db = g.V.StoreView.db c.args.view.now in
    let subject = c.args.subject.now.0 in
    let wanted = change_at db subject in
    let own = own-copy db subject c.requires.sound.well_formed.ordered (owner_schema-created db c.requires.sound.well_formed.created) c.args.shelf.now c.loop-copy.copy-index c.copy-item.result c.requires.shelf c.loop-copy-test.true c.copy-item.is in
    first-more wanted (IsShelved c.args.shelf.now) c.loop-copy.copy-index c.args.changes.now c.loop-copy.changes c.add_row.new.changes c.loop-copy.invariant
    (one-shelved wanted c.args.shelf.now c.loop-copy.copy-index c.copy-item.result c.loop-copy-test.true c.copy-item.is c.loop-copy.changes c.add_row.new.changes
    (c.in_ok-add_row.ensures subject c.requires.removals (c.items-by.ensures ∙ own.by)))

pub returns : goal.returns
returns g c =
    let db = g.V.StoreView.db c.args.view.now in
    let subject = c.args.subject.now.0 in
    all-shelved db subject c.requires.sound.well_formed.ordered (owner_schema-created db c.requires.sound.well_formed.created) (change_at db subject) c.args.shelf.now c.loop-copy.copy-index c.args.changes.now c.loop-copy.changes
    c.requires.shelf c.loop-copy-test.false c.loop-copy.invariant
