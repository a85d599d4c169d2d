use Rattle.std.proofs.Common.{◌∙◌, ap}
use Rattle.std.specs.List.{list_any}
use Rattle.state_model.proofs.CreatedSchema.{owner_schema-created}
use Rattle.shelf_erase.specs.Sought.{passes}
use Rattle.shelf_erase.proofs.SoughtLemmas.{any-leads}
use Rattle.shelf_erase.proofs.sought.Sought.is_over.Goals as goal

pub uppers_of-requires-clause-owner : goal.uppers_of-requires-clause-owner
uppers_of-requires-clause-owner g c = owner_schema-created (g.V.StoreView.db c.args.view.now) c.requires.sound.well_formed.created

pub returns : goal.returns
returns g c =
    let db = g.V.StoreView.db c.args.view.now in
    let test = passes c.args.self db c.args.subject.now.0 c.args.removals.now in
    any-leads db test c.args.name.now c.args.edge.now c.in_ok-uppers.uppers c.is_one_of.result c.in_ok-uppers.ensures
    (c.is_one_of.ensures ∙ ap (list_any test) c.items.ensures)
