use Rattle.std.proofs.Common.{List, [], length, get_or, refl, sym, ◌∙◌, subst, arith}
use Rattle.std.specs.Prelude.{Contains}
use Rattle.std.proofs.lemmas.Option.{slice_get-get_or}
use Rattle.own_base.specs.declared.number.TableNo.{TableNo}
use Rattle.own_model.specs.declared.schema.Edge.{Edge}
use Rattle.owner_model.specs.GraphOrder.{IsGraphOrder}
use Rattle.owner_sets.specs.Sets.{AreSetsOf, AreSetsOfTable, Sets}
use Rattle.owner_sets.specs.WhichSets.{listed}
use Rattle.owner_sets.proofs.InOrder.{Done-above, Done-end, Done-more, order_within}
use Rattle.owner_sets.proofs.sets.sets_of.Goals as goal

-- the next table is there
pub table_sets-requires-clause-there : goal.table_sets-requires-clause-there
table_sets-requires-clause-there g c =
    let schema = (g.V.StoreView.db c.args.view.now).schema in
    let order = c.order-table-items.result.now in
    let graph : IsGraphOrder (length schema.tables) schema.edges order = subst (IsGraphOrder (length schema.tables) schema.edges) (sym c.order-table-items.ensures) c.requires.graph.ordered in
    order_within (length schema.tables) schema.edges order graph c.loop-table.table-index _ (slice_get-get_or order c.loop-table.table-index (record { 0 = 0 }) c.loop-table-test.true)

-- and those above it have their sets
pub table_sets-requires-clause-above : goal.table_sets-requires-clause-above
table_sets-requires-clause-above g c = λ edge among.
    let schema = (g.V.StoreView.db c.args.view.now).schema in
    let db = g.V.StoreView.db c.args.view.now in
    let order = c.order-table-items.result.now in
    let graph : IsGraphOrder (length schema.tables) schema.edges order = subst (IsGraphOrder (length schema.tables) schema.edges) (sym c.order-table-items.ensures) c.requires.graph.ordered in
    let table : TableNo = get_or order c.loop-table.table-index (record { 0 = 0 }) in
    subst (λ (sets : Sets). AreSetsOfTable db (listed c.args.which db) edge.upper.0 (get_or sets edge.upper.0 [])) (sym c.as_slice.ensures.value)
    (Done-above db (listed c.args.which db) order graph c.loop-table.table-index c.loop-table.sets.items table c.loop-table.invariant
    (slice_get-get_or order c.loop-table.table-index (record { 0 = 0 }) c.loop-table-test.true) edge
    (subst (λ (edges : List Edge). Contains edges edge) (c.edges_of-edges.ensures ∙ c.requires.graph.same_edges table.0) among))

pub index_mut-requires : goal.index_mut-requires
index_mut-requires g c =
    let schema = (g.V.StoreView.db c.args.view.now).schema in
    let order = c.order-table-items.result.now in
    let graph : IsGraphOrder (length schema.tables) schema.edges order = subst (IsGraphOrder (length schema.tables) schema.edges) (sym c.order-table-items.ensures) c.requires.graph.ordered in
    let there = order_within (length schema.tables) schema.edges order graph c.loop-table.table-index _ (slice_get-get_or order c.loop-table.table-index (record { 0 = 0 }) c.loop-table-test.true) in
    omega (arith, there, c.loop-table.sets.ok.0, c.loop-table.invariant.tables)

-- one table more has them
pub loop-table-preserved : goal.loop-table-preserved
loop-table-preserved g c =
    let schema = (g.V.StoreView.db c.args.view.now).schema in
    let db = g.V.StoreView.db c.args.view.now in
    let order = c.order-table-items.result.now in
    let graph : IsGraphOrder (length schema.tables) schema.edges order = subst (IsGraphOrder (length schema.tables) schema.edges) (sym c.order-table-items.ensures) c.requires.graph.ordered in
    Done-more db (listed c.args.which db) order graph c.loop-table.table-index c.loop-table.sets.items _ (get_or order c.loop-table.table-index (record { 0 = 0 })) c.in_ok-done.done c.loop-table.invariant
    (slice_get-get_or order c.loop-table.table-index (record { 0 = 0 }) c.loop-table-test.true) c.in_ok-done.ensures refl

pub returns : goal.returns
returns g c =
    let schema = (g.V.StoreView.db c.args.view.now).schema in
    let db = g.V.StoreView.db c.args.view.now in
    let order = c.order-table-items.result.now in
    let graph : IsGraphOrder (length schema.tables) schema.edges order = subst (IsGraphOrder (length schema.tables) schema.edges) (sym c.order-table-items.ensures) c.requires.graph.ordered in
    subst (AreSetsOf db (listed c.args.which db)) (sym c.from_vec.ensures)
    (Done-end db (listed c.args.which db) order graph c.loop-table.table-index c.loop-table.sets.items c.loop-table.invariant c.loop-table-test.false)
