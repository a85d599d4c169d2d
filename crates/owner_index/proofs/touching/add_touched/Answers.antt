use Rattle.std.proofs.Common.{◌∙◌, List, ap, subst}
use Rattle.std.proofs.lemmas.List.{take_all}
use Rattle.own_base.specs.declared.row_name.RowName.{RowName}
use Rattle.own_model.specs.declared.schema.Edge.{Edge}
use Rattle.own_model.specs.declared.schema.Schema.{Schema}
use Rattle.move_model.specs.Touches.{TouchesBy}
use Rattle.owner_index.specs.Adds.{Adds, ForSome}
use Rattle.owner_index.proofs.AddsLemmas.{adds-more}
use Rattle.owner_index.proofs.UpperLemmas.{read_at}
use Rattle.owner_index.proofs.TouchedLemmas.{touches-end}
use Rattle.owner_index.proofs.touching.add_touched.Goals as goal

pub loop-edge-preserved : goal.loop-edge-preserved
loop-edge-preserved g c = (
  record { longer = λ name among. c.in_ok-add_touched_by.ensures.longer name (c.loop-edge.invariant.0.longer name among); has = λ name is. c.in_ok-add_touched_by.ensures.longer name (c.loop-edge.invariant.0.has name is) },
  adds-more (λ (edge : Edge) (name : RowName). TouchesBy (g.V.StoreView.db c.args.view.now) c.args.change.now name edge) c.items-edge-items.result.now c.loop-edge.edge-index _ c.args.work.now c.loop-edge.work c.add_touched_by.new.work
      c.loop-edge-test.true (read_at c.items-edge-items.result.now c.loop-edge.edge-index _ c.loop-edge-test.true) c.loop-edge.invariant.1 c.in_ok-add_touched_by.ensures,
)

pub returns : goal.returns
returns g c =
    touches-end (g.V.StoreView.db c.args.view.now) c.args.change.now c.args.work.now c.loop-edge.work c.loop-edge.invariant.0
    (subst (λ (edges : List Edge). Adds (ForSome (λ (edge : Edge) (name : RowName). TouchesBy (g.V.StoreView.db c.args.view.now) c.args.change.now name edge) edges) c.args.work.now c.loop-edge.work)
    (take_all c.loop-edge.edge-index c.items-edge-items.result.now c.loop-edge-test.false ∙ (c.items-edge-items.ensures ∙ ap (λ (s : Schema). s.edges) c.schema.ensures)) c.loop-edge.invariant.1)
