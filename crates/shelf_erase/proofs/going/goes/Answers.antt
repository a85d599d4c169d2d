use Rattle.std.proofs.Common.{sym, ◌∙◌}
use Rattle.state_model.proofs.CreatedSchema.{owner_schema-created}
use Rattle.shelf_erase.proofs.SoughtLemmas.{itself-goes, stays-is, struck-goes}
use Rattle.shelf_erase.proofs.Strikes.{strikes-created}
use Rattle.shelf_erase.proofs.going.goes.Goals as goal

pub returns-then-is_name : goal.returns-then-is_name
returns-then-is_name g c = λ told_above.
    let db = g.V.StoreView.db c.args.view.now in
    itself-goes db c.requires.sound.well_formed.ordered (owner_schema-created db c.requires.sound.well_formed.created) c.args.subject.now.0 c.args.copy.now.name (sym c.is_name.ensures ∙ c.if-is_name.true)

pub returns-then-struck : goal.returns-then-struck
returns-then-struck g c = λ told_above.
    let db = g.V.StoreView.db c.args.view.now in
    struck-goes db c.requires.sound.well_formed.ordered (owner_schema-created db c.requires.sound.well_formed.created) c.args.subject.now.0 c.args.removals.now c.args.copy.now.name told_above c.requires.subject
    (strikes-created db c.requires.sound.well_formed.created) c.requires.owned c.in_ok-struck.struck c.in_ok-struck.ensures c.if-struck.true

pub returns : goal.returns
returns g c = λ told_above.
    let db = g.V.StoreView.db c.args.view.now in
    stays-is db c.requires.sound.well_formed.ordered (owner_schema-created db c.requires.sound.well_formed.created) c.args.subject.now.0 c.args.removals.now c.args.copy.now.name told_above c.requires.subject
    (strikes-created db c.requires.sound.well_formed.created) c.requires.owned c.in_ok-struck.struck c.in_ok-kept.kept c.in_ok-struck.ensures c.in_ok-kept.ensures c.if-struck.false
