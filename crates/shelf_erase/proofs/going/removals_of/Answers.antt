use Rattle.std.proofs.Common.{List, length, sym, subst}
use Rattle.own_base.specs.declared.change.Change.{Change}
use Rattle.owner_model.specs.GraphOrder.{IsGraphOrder}
use Rattle.state_model.proofs.Consistency.{consistent_from_sound}
use Rattle.state_model.proofs.CreatedSchema.{owner_schema-created}
use Rattle.shelf_erase.proofs.Outside.{goes_owned}
use Rattle.shelf_erase.proofs.Removing.{OrderTold, order-end, order-next, order-start}
use Rattle.shelf_erase.proofs.Steps.{read_at}
use Rattle.shelf_erase.proofs.Strikes.{strikes-created}
use Rattle.shelf_erase.proofs.going.removals_of.Goals as goal

pub loop-table-init : goal.loop-table-init
loop-table-init g c =
    let db = g.V.StoreView.db c.args.view.now in
    let subject = c.args.subject.now.0 in
    let sound = c.requires.sound in
    let owner = owner_schema-created db sound.well_formed.created in
    let goes = goes_owned db subject sound.well_formed.ordered owner c.requires.subject (strikes-created db sound.well_formed.created) (consistent_from_sound db sound) in
    let order = c.order-table-items.result.now in
    let graph : IsGraphOrder (length db.schema.tables) db.schema.edges order = subst (IsGraphOrder (length db.schema.tables) db.schema.edges) (sym c.order-table-items.ensures) c.requires.graph.ordered in
    subst (λ (list : List Change). OrderTold db subject order 0 list) (sym c.new-removals.ensures) (order-start db subject order graph goes)

pub loop-table-preserved : goal.loop-table-preserved
loop-table-preserved g c =
    let db = g.V.StoreView.db c.args.view.now in
    let subject = c.args.subject.now.0 in
    let sound = c.requires.sound in
    let owner = owner_schema-created db sound.well_formed.created in
    let goes = goes_owned db subject sound.well_formed.ordered owner c.requires.subject (strikes-created db sound.well_formed.created) (consistent_from_sound db sound) in
    let order = c.order-table-items.result.now in
    let graph : IsGraphOrder (length db.schema.tables) db.schema.edges order = subst (IsGraphOrder (length db.schema.tables) db.schema.edges) (sym c.order-table-items.ensures) c.requires.graph.ordered in
    order-next db subject order graph goes c.loop-table.table-index _ c.loop-table.removals c.add_table.new.removals c.loop-table-test.true
    (read_at order c.loop-table.table-index _ c.loop-table-test.true) c.loop-table.invariant c.in_ok-add_table.ensures

pub returns : goal.returns
returns g c =
    let db = g.V.StoreView.db c.args.view.now in
    let subject = c.args.subject.now.0 in
    let sound = c.requires.sound in
    let owner = owner_schema-created db sound.well_formed.created in
    let goes = goes_owned db subject sound.well_formed.ordered owner c.requires.subject (strikes-created db sound.well_formed.created) (consistent_from_sound db sound) in
    let order = c.order-table-items.result.now in
    let graph : IsGraphOrder (length db.schema.tables) db.schema.edges order = subst (IsGraphOrder (length db.schema.tables) db.schema.edges) (sym c.order-table-items.ensures) c.requires.graph.ordered in
    order-end db subject order graph goes c.loop-table.table-index c.loop-table.removals c.loop-table.invariant c.loop-table-test.false
