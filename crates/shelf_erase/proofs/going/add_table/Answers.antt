use Rattle.state_model.proofs.CreatedSchema.{owner_schema-created}
use Rattle.shelf_erase.specs.ChangeAt.{removal_at}
use Rattle.shelf_erase.specs.Told.{OfFirst}
use Rattle.shelf_erase.proofs.ShelfPlaces.{IsShelvedIn, above-kept, all-shelved-in, one-shelved-in, own-copy}
use Rattle.shelf_erase.proofs.ToldLemmas.{first-more, first-start}
use Rattle.shelf_erase.proofs.going.add_table.Goals as goal

pub loop-copy-init : goal.loop-copy-init
loop-copy-init g c = λ told_above. first-start (removal_at (g.V.StoreView.db c.args.view.now) c.args.subject.now.0) (IsShelvedIn c.args.shelf.now c.args.table) c.args.removals.now

pub add_going-requires-clause-row : goal.add_going-requires-clause-row
add_going-requires-clause-row g c =
    let db = g.V.StoreView.db c.args.view.now in
    (own-copy db c.args.subject.now.0 c.requires.sound.well_formed.ordered (owner_schema-created db c.requires.sound.well_formed.created) c.args.shelf.now c.loop-copy.copy-index c.copy-item.result c.requires.shelf c.loop-copy-test.true c.copy-item.is).row

pub add_going-requires-clause-owned : goal.add_going-requires-clause-owned
add_going-requires-clause-owned g c =
    let db = g.V.StoreView.db c.args.view.now in
    (own-copy db c.args.subject.now.0 c.requires.sound.well_formed.ordered (owner_schema-created db c.requires.sound.well_formed.created) c.args.shelf.now c.loop-copy.copy-index c.copy-item.result c.requires.shelf c.loop-copy-test.true c.copy-item.is).owned

pub loop-copy-preserved : goal.loop-copy-preserved
loop-copy-preserved g c = λ told_above.
    let db = g.V.StoreView.db c.args.view.now in
    let subject = c.args.subject.now.0 in
    let so_far = c.loop-copy.invariant told_above in
    first-more (removal_at db subject) (IsShelvedIn c.args.shelf.now c.args.table) c.loop-copy.copy-index c.args.removals.now c.loop-copy.removals c.add_going.new.removals so_far
    (one-shelved-in (removal_at db subject) c.args.shelf.now c.loop-copy.copy-index c.copy-item.result c.loop-copy-test.true c.copy-item.is c.args.table c.loop-copy.removals c.add_going.new.removals
    (c.in_ok-add_going.ensures (above-kept db subject c.args.table (OfFirst (IsShelvedIn c.args.shelf.now c.args.table) c.loop-copy.copy-index) c.args.removals.now c.loop-copy.removals told_above so_far)))

pub returns : goal.returns
returns g c = λ told_above.
    let db = g.V.StoreView.db c.args.view.now in
    let subject = c.args.subject.now.0 in
    all-shelved-in db subject c.requires.sound.well_formed.ordered (owner_schema-created db c.requires.sound.well_formed.created) (removal_at db subject) c.args.table c.args.shelf.now c.loop-copy.copy-index c.args.removals.now c.loop-copy.removals
    c.requires.shelf c.loop-copy-test.false (c.loop-copy.invariant told_above)
