use Rattle.std.proofs.Common.{◌∙◌, subst, List}
use Rattle.std.proofs.lemmas.List.{take_all}
use Rattle.own_model.specs.declared.schema.Edge.{Edge}
use Rattle.owner_index.specs.Uppers.{AreUppersBy}
use Rattle.owner_index.proofs.UpperLemmas.{edge_out, read_at, uppers-end, uppers-more}
use Rattle.owner_index.proofs.upper.uppers_of.Goals as goal

-- an edge out of the table is one of the schema
pub add_along-requires-clause-among : goal.add_along-requires-clause-among
add_along-requires-clause-among g c =
    (edge_out (g.V.StoreView.db c.args.view.now) c.args.name.now c.edges_of-edge-items.result.now c.loop-edge.edge-index _ (c.edges_of-edge-items.ensures ∙ c.requires.graph.same_edges c.args.name.now.table.0) c.loop-edge-test.true).0

pub add_along-requires-clause-of_lower : goal.add_along-requires-clause-of_lower
add_along-requires-clause-of_lower g c =
    (edge_out (g.V.StoreView.db c.args.view.now) c.args.name.now c.edges_of-edge-items.result.now c.loop-edge.edge-index _ (c.edges_of-edge-items.ensures ∙ c.requires.graph.same_edges c.args.name.now.table.0) c.loop-edge-test.true).1

pub loop-edge-preserved : goal.loop-edge-preserved
loop-edge-preserved g c =
    uppers-more (g.V.StoreView.db c.args.view.now) c.args.name.now c.edges_of-edge-items.result.now c.loop-edge.edge-index _ c.loop-edge.uppers c.add_along.new.uppers c.loop-edge-test.true
    (read_at c.edges_of-edge-items.result.now c.loop-edge.edge-index _ c.loop-edge-test.true) c.loop-edge.invariant c.in_ok-add_along.ensures

pub returns : goal.returns
returns g c =
    uppers-end (g.V.StoreView.db c.args.view.now) c.args.name.now c.edges_of-edge-items.result.now c.loop-edge.uppers (c.edges_of-edge-items.ensures ∙ c.requires.graph.same_edges c.args.name.now.table.0)
    (subst (λ (edges : List Edge). AreUppersBy (g.V.StoreView.db c.args.view.now) c.args.name.now edges c.loop-edge.uppers) (take_all c.loop-edge.edge-index c.edges_of-edge-items.result.now c.loop-edge-test.false) c.loop-edge.invariant)
