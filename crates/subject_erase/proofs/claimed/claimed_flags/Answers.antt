use Rattle.std.proofs.Common.{◌≡◌, List, [], length, get_or, ap, sym, length-set, ◌∙◌, subst, arith}
use Rattle.std.specs.Prelude.{◌==◌, Contains, filter}
use Rattle.std.proofs.lemmas.Option.{slice_get-get_or}
use Rattle.own_base.specs.declared.number.TableNo.{TableNo}
use Rattle.own_model.specs.declared.schema.Edge.{Edge}
use Rattle.own_model.specs.declared.schema.Schema.{Schema}
use Rattle.owner_model.specs.GraphOrder.{IsGraphOrder}
use Rattle.owner_sets.proofs.InOrder.{order_within}
use Rattle.subject_erase.specs.Flags.{AreFlagsOf, AreFlagsOfTable, Flags}
use Rattle.subject_erase.specs.Staying.{is_claimed}
use Rattle.subject_erase.proofs.ClaimedOrder.{OrderFlagged-above, OrderFlagged-end, OrderFlagged-more, OrderFlagged-none}
use Rattle.subject_erase.proofs.claimed.claimed_flags.Goals as goal

pub loop-table-init : goal.loop-table-init
loop-table-init g c =
    let db = g.V.StoreView.db c.args.view.now in
    let same : length c.in_ok-claimed.claimed.items ≡ length db.schema.tables = c.in_ok-claimed.ensures ∙ ap length (c.items.ensures ∙ ap (λ (s : Schema). s.tables) c.schema.ensures) in
    let order = c.order-table-items.result.now in
    let graph : IsGraphOrder (length db.schema.tables) db.schema.edges order = subst (IsGraphOrder (length db.schema.tables) db.schema.edges) (sym c.order-table-items.ensures) c.requires.graph.ordered in
    (same, λ subject owned struck. OrderFlagged-none db (is_claimed db subject) order graph c.in_ok-claimed.claimed.items same)

-- the next table is there
pub table_claimed-requires-clause-there : goal.table_claimed-requires-clause-there
table_claimed-requires-clause-there g c =
    let schema = (g.V.StoreView.db c.args.view.now).schema in
    let order = c.order-table-items.result.now in
    let graph : IsGraphOrder (length schema.tables) schema.edges order = subst (IsGraphOrder (length schema.tables) schema.edges) (sym c.order-table-items.ensures) c.requires.graph.ordered in
    order_within (length schema.tables) schema.edges order graph c.loop-table.table-index _ (slice_get-get_or order c.loop-table.table-index (record { 0 = 0 }) c.loop-table-test.true)

pub index_mut-requires : goal.index_mut-requires
index_mut-requires g c =
    let schema = (g.V.StoreView.db c.args.view.now).schema in
    let order = c.order-table-items.result.now in
    let graph : IsGraphOrder (length schema.tables) schema.edges order = subst (IsGraphOrder (length schema.tables) schema.edges) (sym c.order-table-items.ensures) c.requires.graph.ordered in
    let there = order_within (length schema.tables) schema.edges order graph c.loop-table.table-index _ (slice_get-get_or order c.loop-table.table-index (record { 0 = 0 }) c.loop-table-test.true) in
    omega (arith, there, c.loop-table.claimed.ok.0, c.loop-table.invariant.0)

-- one table more
pub loop-table-preserved : goal.loop-table-preserved
loop-table-preserved g c =
    let schema = (g.V.StoreView.db c.args.view.now).schema in
    let db = g.V.StoreView.db c.args.view.now in
    let order = c.order-table-items.result.now in
    let graph : IsGraphOrder (length schema.tables) schema.edges order = subst (IsGraphOrder (length schema.tables) schema.edges) (sym c.order-table-items.ensures) c.requires.graph.ordered in
    let table : TableNo = get_or order c.loop-table.table-index (record { 0 = 0 }) in
    let is = slice_get-get_or order c.loop-table.table-index (record { 0 = 0 }) c.loop-table-test.true in
    let out : c.edges_of-edges.result.now ≡ filter (λ edge. edge.lower.0 == table.0) schema.edges = c.edges_of-edges.ensures ∙ c.requires.graph.same_edges table.0 in (
      length-set c.loop-table.claimed.items table.0 c.in_ok-done.done ∙ c.loop-table.invariant.0,
      λ subject owned struck.
          let so_far = c.loop-table.invariant.1 subject owned struck in
          OrderFlagged-more db (is_claimed db subject) order graph c.loop-table.table-index c.loop-table.claimed.items table c.in_ok-done.done so_far is
          (c.in_ok-done.ensures subject owned struck
          (λ edge among.
          subst (λ (flags : Flags). AreFlagsOfTable db (is_claimed db subject) edge.upper.0 (get_or flags edge.upper.0 [])) (sym c.as_slice.ensures.value)
          (OrderFlagged-above db (is_claimed db subject) order graph c.loop-table.table-index c.loop-table.claimed.items table so_far is edge (subst (λ (edges : List Edge). Contains edges edge) out among)))),
    )

pub returns : goal.returns
returns g c = λ subject owned struck.
    let schema = (g.V.StoreView.db c.args.view.now).schema in
    let db = g.V.StoreView.db c.args.view.now in
    let order = c.order-table-items.result.now in
    let graph : IsGraphOrder (length schema.tables) schema.edges order = subst (IsGraphOrder (length schema.tables) schema.edges) (sym c.order-table-items.ensures) c.requires.graph.ordered in
    subst (AreFlagsOf db (is_claimed db subject)) (sym c.from_vec.ensures)
    (OrderFlagged-end db (is_claimed db subject) order graph c.loop-table.table-index c.loop-table.claimed.items (c.loop-table.invariant.1 subject owned struck) c.loop-table-test.false)
