use Rattle.std.proofs.Common.{◌∙◌, ap, map, List}
use Rattle.std.specs.Prelude.{filter}
use Rattle.std.proofs.lemmas.List.{take_all}
use Rattle.own_model.specs.declared.schema.Edge.{Edge}
use Rattle.own_model.specs.declared.schema.Schema.{Schema}
use Rattle.subject_model.specs.Owners.{by, reaches_by}
use Rattle.owner_index.proofs.UpperLemmas.{read_at}
use Rattle.micro_db.proofs.ByLemmas.{kept-more}
use Rattle.micro_db.proofs.by.edges_by.Goals as goal

pub loop-edge-preserved : goal.loop-edge-preserved
loop-edge-preserved g c =
    kept-more (reaches_by (g.N.StoreView.db c.args.after.now) c.args.subject.now.0 c.args.name.now) (λ (edge : Edge). edge.number) c.items-edge-items.result.now c.loop-edge.edge-index _ c.loop-edge.by c.add_where.new.by c.in_ok-reached.reached
    c.loop-edge-test.true (read_at c.items-edge-items.result.now c.loop-edge.edge-index _ c.loop-edge-test.true) c.in_ok-reached.ensures c.loop-edge.invariant c.in_ok-add_where.ensures

pub returns : goal.returns
unfolding by
returns g c =
    c.loop-edge.invariant ∙ ap (λ (edges : List Edge). map (λ (edge : Edge). edge.number) (filter (reaches_by (g.N.StoreView.db c.args.after.now) c.args.subject.now.0 c.args.name.now) edges))
    (take_all c.loop-edge.edge-index c.items-edge-items.result.now c.loop-edge-test.false ∙ (c.items-edge-items.ensures ∙ ap (λ (s : Schema). s.edges) c.schema.ensures))
