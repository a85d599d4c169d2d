use Rattle.std.proofs.Common.{◌++◌, List, ap, ◌∙◌}
use Rattle.std.specs.Prelude.{flat_map}
use Rattle.std.proofs.lemmas.List.{take_all}
use Rattle.own_base.specs.declared.row_name.RowName.{RowName}
use Rattle.own_base.specs.declared.row_name.Subject.{Subject}
use Rattle.shelf_access.specs.Sights.{sight_of}
use Rattle.shelf_access.proofs.SightLemmas.{flat_more}
use Rattle.shelf_access.proofs.sights.add_run.Goals as goal

pub loop-filed-preserved : goal.loop-filed-preserved
loop-filed-preserved g c =
    flat_more (λ (filed : Subject × RowName). sight_of (g.V.StoreView.db c.args.view.now) c.args.subject.now.0 filed.1) c.args.run.now c.loop-filed.filed-index c.filed-item.result c.args.copies.now c.loop-filed.copies c.add_sight.new.copies
    c.loop-filed-test.true c.filed-item.is c.loop-filed.invariant c.in_ok-add_sight.ensures

pub returns : goal.returns
returns g c =
    c.loop-filed.invariant ∙ ap (λ (run : List (Subject × RowName)). c.args.copies.now ++ flat_map (λ filed. sight_of (g.V.StoreView.db c.args.view.now) c.args.subject.now.0 filed.1) run)
    (take_all c.loop-filed.filed-index c.args.run.now c.loop-filed-test.false)
