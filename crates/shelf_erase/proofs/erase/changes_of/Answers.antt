use Rattle.std.proofs.Common.{◌∙◌, ap}
use Rattle.own_model.specs.Db.{Db}
use Rattle.shelf_model.specs.Seen.{seen}
use Rattle.shelf_erase.proofs.AllTold.{all-told}
use Rattle.shelf_erase.proofs.erase.changes_of.Goals as goal

pub returns : goal.returns
returns g c =
    let db = g.V.StoreView.db c.args.view.now in
    let subject = c.args.subject.now.0 in
    let sound = c.requires.sound in
    let seen_is = c.items.ensures ∙ (c.in_ok-seen.ensures ∙ ap (λ (d : Db). seen d subject) c.requires.one) in
    all-told db subject sound c.requires.subject c.items.result.now c.new-changes.result c.add_shelf.new.changes c.add_names.new.changes c.add_all_referring.new.changes
    c.new-changes.ensures seen_is c.in_ok-add_shelf.ensures c.in_ok-add_names.ensures c.in_ok-add_all_referring.ensures
