use Rattle.std.proofs.Common.{List, map, ap, ◌∙◌}
use Rattle.std.specs.Prelude.{filter}
use Rattle.std.proofs.lemmas.List.{take_all}
use Rattle.own_model.specs.declared.schema.Edge.{Edge}
use Rattle.subject_model.specs.Owners.{reaches_by}
use Rattle.state_model.proofs.CreatedSchema.{owner_schema-created}
use Rattle.shelf_erase.proofs.SoughtLemmas.{by-next, by-out, edge_out, leads-reaches_by}
use Rattle.shelf_erase.proofs.Steps.{read_at, there_at}
use Rattle.shelf_erase.proofs.sought.by_of.Goals as goal

pub is_over-requires-clause-among : goal.is_over-requires-clause-among
is_over-requires-clause-among g c =
    (edge_out (g.V.StoreView.db c.args.view.now) c.args.name.now c.edges_of-edge-items.result.now _ (c.edges_of-edge-items.ensures ∙ c.requires.graph.same_edges c.args.name.now.table.0)
    (there_at c.edges_of-edge-items.result.now c.loop-edge.edge-index _ c.loop-edge-test.true (read_at c.edges_of-edge-items.result.now c.loop-edge.edge-index _ c.loop-edge-test.true))).0

pub is_over-requires-clause-of_lower : goal.is_over-requires-clause-of_lower
is_over-requires-clause-of_lower g c =
    (edge_out (g.V.StoreView.db c.args.view.now) c.args.name.now c.edges_of-edge-items.result.now _ (c.edges_of-edge-items.ensures ∙ c.requires.graph.same_edges c.args.name.now.table.0)
    (there_at c.edges_of-edge-items.result.now c.loop-edge.edge-index _ c.loop-edge-test.true (read_at c.edges_of-edge-items.result.now c.loop-edge.edge-index _ c.loop-edge-test.true))).1

pub loop-edge-preserved : goal.loop-edge-preserved
loop-edge-preserved g c =
    let db = g.V.StoreView.db c.args.view.now in
    let ordered = c.requires.sound.well_formed.ordered in
    let owner = owner_schema-created db c.requires.sound.well_formed.created in
    let among = (edge_out db c.args.name.now c.edges_of-edge-items.result.now _ (c.edges_of-edge-items.ensures ∙ c.requires.graph.same_edges c.args.name.now.table.0)
    (there_at c.edges_of-edge-items.result.now c.loop-edge.edge-index _ c.loop-edge-test.true (read_at c.edges_of-edge-items.result.now c.loop-edge.edge-index _ c.loop-edge-test.true))).0 in
    by-next (reaches_by db c.args.subject.now.0 c.args.name.now) c.edges_of-edge-items.result.now c.loop-edge.edge-index _ c.loop-edge.by c.add_where.new.numbers c.in_ok-leads.leads c.loop-edge-test.true
    (read_at c.edges_of-edge-items.result.now c.loop-edge.edge-index _ c.loop-edge-test.true)
    (leads-reaches_by db ordered owner c.args.subject.now.0 c.new-removals.result c.args.name.now _ c.in_ok-leads.leads among c.in_ok-leads.ensures)
    c.in_ok-add_where.ensures c.loop-edge.invariant

pub returns : goal.returns
returns g c =
    let db = g.V.StoreView.db c.args.view.now in
    let ordered = c.requires.sound.well_formed.ordered in
    let owner = owner_schema-created db c.requires.sound.well_formed.created in
    let test = reaches_by db c.args.subject.now.0 c.args.name.now in
    c.loop-edge.invariant
    ∙ (ap (λ (list : List Edge). map (λ (edge : Edge). edge.number) (filter test list)) (take_all c.loop-edge.edge-index c.edges_of-edge-items.result.now c.loop-edge-test.false)
    ∙ by-out db ordered owner c.args.subject.now.0 c.args.name.now c.edges_of-edge-items.result.now (c.edges_of-edge-items.ensures ∙ c.requires.graph.same_edges c.args.name.now.table.0))
