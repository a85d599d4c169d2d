use Rattle.std.proofs.Common.{List, [], subst}
use Rattle.std.proofs.lemmas.List.{take_all}
use Rattle.own_base.specs.declared.change.Change.{Change}
use Rattle.move_model.specs.Touches.{Touches}
use Rattle.owner_index.specs.Adds.{Adds, ForSome}
use Rattle.owner_index.proofs.AddsLemmas.{adds-more}
use Rattle.owner_index.proofs.TouchedLemmas.{untouched_keeps_edges}
use Rattle.owner_index.proofs.touching.touched.Goals as goal

pub loop-change-preserved : goal.loop-change-preserved
loop-change-preserved g c =
    adds-more (Touches (g.V.StoreView.db c.args.view.now)) c.args.changes.now c.loop-change.change-index c.change-item.result [] c.loop-change.names c.add_touched.new.work
    c.loop-change-test.true c.change-item.is c.loop-change.invariant c.in_ok-add_touched.ensures

pub returns : goal.returns
returns g c =
    untouched_keeps_edges (g.V.StoreView.db c.args.view.now) c.args.changes.now c.loop-change.names
    (subst (λ (changes : List Change). Adds (ForSome (Touches (g.V.StoreView.db c.args.view.now)) changes) [] c.loop-change.names) (take_all c.loop-change.change-index c.args.changes.now c.loop-change-test.false) c.loop-change.invariant)
