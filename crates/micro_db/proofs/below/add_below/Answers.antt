use Rattle.std.proofs.Common.{◌∙◌, ap, subst, List}
use Rattle.std.proofs.lemmas.List.{take_all}
use Rattle.own_base.specs.declared.row_name.RowName.{RowName}
use Rattle.own_model.specs.declared.schema.Edge.{Edge}
use Rattle.own_model.specs.declared.schema.Schema.{Schema}
use Rattle.owner_model.specs.Joins.{Joins}
use Rattle.owner_index.specs.Adds.{Adds, ForSome}
use Rattle.owner_index.proofs.AddsLemmas.{adds-more}
use Rattle.owner_index.proofs.UpperLemmas.{read_at}
use Rattle.micro_db.proofs.below.add_below.Goals as goal

pub loop-edge-preserved : goal.loop-edge-preserved
loop-edge-preserved g c =
    adds-more (λ (edge : Edge) (lower : RowName). Joins (g.N.StoreView.db c.args.after.now) lower edge c.args.name.now) c.items-edge-items.result.now c.loop-edge.edge-index _ c.args.work.now c.loop-edge.work c.add_below_along.new.work
    c.loop-edge-test.true (read_at c.items-edge-items.result.now c.loop-edge.edge-index _ c.loop-edge-test.true) c.loop-edge.invariant c.in_ok-add_below_along.ensures

pub returns : goal.returns
returns g c =
    subst (λ (edges : List Edge). Adds (ForSome (λ (edge : Edge) (lower : RowName). Joins (g.N.StoreView.db c.args.after.now) lower edge c.args.name.now) edges) c.args.work.now c.loop-edge.work)
    (take_all c.loop-edge.edge-index c.items-edge-items.result.now c.loop-edge-test.false ∙ (c.items-edge-items.ensures ∙ ap (λ (s : Schema). s.edges) c.schema.ensures)) c.loop-edge.invariant
