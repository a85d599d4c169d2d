use Rattle.std.proofs.Common.{◌≡◌, ◌<◌, ◌++◌, ◌∙◌, List, [], length, get_or, take, ap, arith}
use Rattle.std.specs.Prelude.{replicate}
use Rattle.std.proofs.lemmas.List.{get_or-replicate, length-replicate, take_all}
use Rattle.own_base.specs.declared.number.EdgeNo.{EdgeNo}
use Rattle.own_model.specs.declared.schema.Edge.{Edge}
use Rattle.own_model.specs.declared.schema.Schema.{Schema}
use Rattle.own_model.specs.Stored.{rows_at}
use Rattle.owner_sets.specs.Leading.{leading}
use Rattle.owner_sets.proofs.MarkLemmas.{edge_within-at, edges-more, edges-none}
use Rattle.owner_sets.proofs.leading.leading.Goals as goal

pub loop-edge-init : goal.loop-edge-init
loop-edge-init g c =
    edges-none (g.V.StoreView.db c.args.view.now).schema (g.V.StoreView.db c.args.view.now).rows c.args.reach.now c.args.subject.now c.args.table.0 c.in_ok-lists.lists.items

-- the next edge is one of the schema's
pub add_edge-requires : goal.add_edge-requires
add_edge-requires g c = record {
  within =
      edge_within-at (g.V.StoreView.db c.args.view.now).schema c.items-edge-items.result.now c.loop-edge.edge-index _ c.requires.owner
      (c.items-edge-items.ensures ∙ ap (λ (s : Schema). s.edges) c.schema.ensures) c.loop-edge-test.true;
}

pub loop-edge-preserved : goal.loop-edge-preserved
loop-edge-preserved g c =
    edges-more (g.V.StoreView.db c.args.view.now).schema (g.V.StoreView.db c.args.view.now).rows c.args.reach.now c.args.subject.now c.args.table.0 c.items-edge-items.result.now
    c.loop-edge.edge-index _ c.in_ok-lists.lists.items c.loop-edge.lists.items c.add_edge.new.lists.items c.loop-edge-test.true c.loop-edge.invariant c.in_ok-add_edge.ensures

-- each row keeps its list
pub returns-clause-rows : goal.returns-clause-rows
returns-clause-rows g c =
    let count = length (rows_at (g.V.StoreView.db c.args.view.now).rows c.args.table.0) in
    let first : c.in_ok-lists.lists.items ≡ replicate count [] = c.in_ok-lists.ensures ∙ ap (λ n. replicate n []) c.count.ensures in
    c.loop-edge.invariant.same_length ∙ (ap length first ∙ length-replicate {A = List EdgeNo} count [])

-- all edges are gone through, and none was listed before
pub returns-clause-each : goal.returns-clause-each
returns-clause-each g c = λ place within.
    let schema = (g.V.StoreView.db c.args.view.now).schema in
    let rows = (g.V.StoreView.db c.args.view.now).rows in
    let count = length (rows_at rows c.args.table.0) in
    let own : List Edge → List EdgeNo = λ edges. leading schema rows c.args.reach.now c.args.subject.now c.args.table.0 edges place in
    let first : c.in_ok-lists.lists.items ≡ replicate count [] = c.in_ok-lists.ensures ∙ ap (λ n. replicate n []) c.count.ensures in
    let there : place < length c.in_ok-lists.lists.items = omega (arith, ap length first, length-replicate {A = List EdgeNo} count []) in
    let unlisted : get_or c.in_ok-lists.lists.items place [] ≡ [] = ap (λ lists. get_or lists place []) first ∙ get_or-replicate count place [] [] within in
    let all : take c.loop-edge.edge-index c.items-edge-items.result.now ≡ schema.edges =
    take_all c.loop-edge.edge-index c.items-edge-items.result.now c.loop-edge-test.false ∙ (c.items-edge-items.ensures ∙ ap (λ (s : Schema). s.edges) c.schema.ensures) in
    c.loop-edge.invariant.at place there
    ∙ (ap (λ list. list ++ own (take c.loop-edge.edge-index c.items-edge-items.result.now)) unlisted
    ∙ ap own all)
