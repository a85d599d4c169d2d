use Rattle.std.proofs.Common.{length, sym, subst}
use Rattle.std.proofs.lemmas.Option.{slice_get-get_or}
use Rattle.owner_model.specs.GraphOrder.{IsGraphOrder}
use Rattle.owner_index.proofs.TablesLemmas.{tables-end, tables-more, tables-start}
use Rattle.owner_index.proofs.pass.settle_all.Goals as goal

pub loop-table-init : goal.loop-table-init
loop-table-init g c =
    let db = g.V.StoreView.db c.args.view.now in
    let order = c.order-table-items.result.now in
    let graph : IsGraphOrder (length db.schema.tables) db.schema.edges order = subst (IsGraphOrder (length db.schema.tables) db.schema.edges) (sym c.order-table-items.ensures) c.requires.graph.ordered in
    tables-start db c.requires.owner (g.met.V.StoreView.ordered c.args.view.now) order graph c.args.index.now c.args.work.now

-- one table more is settled
pub loop-table-preserved : goal.loop-table-preserved
loop-table-preserved g c =
    let db = g.V.StoreView.db c.args.view.now in
    let order = c.order-table-items.result.now in
    let graph : IsGraphOrder (length db.schema.tables) db.schema.edges order = subst (IsGraphOrder (length db.schema.tables) db.schema.edges) (sym c.order-table-items.ensures) c.requires.graph.ordered in
    tables-more db c.requires.owner (g.met.V.StoreView.ordered c.args.view.now) order graph c.loop-table.table-index _
    (slice_get-get_or order c.loop-table.table-index (record { 0 = 0 }) c.loop-table-test.true) c.args.index.now c.loop-table.index c.settle_table.new.index c.args.work.now c.loop-table.work c.settle_table.new.work
    c.loop-table.invariant c.in_ok-settle_table.ensures

pub returns : goal.returns
returns g c =
    let db = g.V.StoreView.db c.args.view.now in
    let order = c.order-table-items.result.now in
    let graph : IsGraphOrder (length db.schema.tables) db.schema.edges order = subst (IsGraphOrder (length db.schema.tables) db.schema.edges) (sym c.order-table-items.ensures) c.requires.graph.ordered in
    tables-end db c.requires.owner (g.met.V.StoreView.ordered c.args.view.now) order graph c.loop-table.table-index c.args.index.now c.loop-table.index c.args.work.now c.loop-table.work c.loop-table-test.false c.loop-table.invariant
