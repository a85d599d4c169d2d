use Rattle.std.proofs.Common.{◌≡◌, true, false, sym, ◌∙◌}
use Rattle.shelf_erase.specs.Sought.{LeadsBy}
use Rattle.shelf_erase.proofs.SoughtLemmas.{edge_out, up-found, up-none}
use Rattle.shelf_erase.proofs.Steps.{none-end, none-more, none-start, read_at, there_at}
use Rattle.shelf_erase.proofs.sought.Sought.is_above.Goals as goal

pub loop-edge-init : goal.loop-edge-init
loop-edge-init g c = none-start _ _

pub is_by-requires-clause-among : goal.is_by-requires-clause-among
is_by-requires-clause-among g c =
    (edge_out (g.V.StoreView.db c.args.view.now) c.args.name.now c.edges_of-edge-items.result.now _ (c.edges_of-edge-items.ensures ∙ c.requires.graph.same_edges c.args.name.now.table.0)
    (there_at c.edges_of-edge-items.result.now c.loop-edge.edge-index _ c.loop-edge-test.true (read_at c.edges_of-edge-items.result.now c.loop-edge.edge-index _ c.loop-edge-test.true))).0

pub is_by-requires-clause-of_lower : goal.is_by-requires-clause-of_lower
is_by-requires-clause-of_lower g c =
    (edge_out (g.V.StoreView.db c.args.view.now) c.args.name.now c.edges_of-edge-items.result.now _ (c.edges_of-edge-items.ensures ∙ c.requires.graph.same_edges c.args.name.now.table.0)
    (there_at c.edges_of-edge-items.result.now c.loop-edge.edge-index _ c.loop-edge-test.true (read_at c.edges_of-edge-items.result.now c.loop-edge.edge-index _ c.loop-edge-test.true))).1

pub returns-then-leads : goal.returns-then-leads
returns-then-leads g c =
    up-found (g.V.StoreView.db c.args.view.now) c.args.self c.args.subject.now.0 c.args.removals.now c.args.name.now _ (c.in_ok-leads.ensures.0 c.if-leads.true)

pub loop-edge-preserved : goal.loop-edge-preserved
loop-edge-preserved g c =
    none-more (LeadsBy (g.V.StoreView.db c.args.view.now) c.args.self c.args.subject.now.0 c.args.removals.now c.args.name.now) c.edges_of-edge-items.result.now c.loop-edge.edge-index _ c.loop-edge-test.true
    (read_at c.edges_of-edge-items.result.now c.loop-edge.edge-index _ c.loop-edge-test.true) c.loop-edge.invariant
    (λ by. let is : c.in_ok-leads.leads ≡ true = c.in_ok-leads.ensures.1 by in let never : true ≡ false = sym is ∙ c.if-leads.false in cc)

pub returns : goal.returns
returns g c =
    up-none (g.V.StoreView.db c.args.view.now) c.args.self c.args.subject.now.0 c.args.removals.now c.args.name.now c.edges_of-edge-items.result.now
    (c.edges_of-edge-items.ensures ∙ c.requires.graph.same_edges c.args.name.now.table.0)
    (none-end (LeadsBy (g.V.StoreView.db c.args.view.now) c.args.self c.args.subject.now.0 c.args.removals.now c.args.name.now) c.edges_of-edge-items.result.now c.loop-edge.edge-index c.loop-edge-test.false c.loop-edge.invariant)
