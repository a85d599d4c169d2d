use Rattle.std.proofs.Common.{sym, ◌∙◌}
use Rattle.shelf_erase.specs.Sought.{passes}
use Rattle.shelf_erase.proofs.Steps.{any_found, any_none, any_passed}
use Rattle.shelf_erase.proofs.sought.Sought.is_one_of.Goals as goal

pub returns-then-passes : goal.returns-then-passes
returns-then-passes g c =
    let test = passes c.args.self (g.V.StoreView.db c.args.view.now) c.args.subject.now.0 c.args.removals.now in
    sym (any_found test c.args.uppers.now c.loop-upper.upper-index c.upper-item.result c.loop-upper-test.true c.upper-item.is (sym c.passes.ensures ∙ c.if-passes.true)) ∙ c.loop-upper.invariant

pub loop-upper-preserved : goal.loop-upper-preserved
loop-upper-preserved g c =
    let test = passes c.args.self (g.V.StoreView.db c.args.view.now) c.args.subject.now.0 c.args.removals.now in
    any_passed test c.args.uppers.now c.loop-upper.upper-index c.upper-item.result c.loop-upper-test.true c.upper-item.is (sym c.passes.ensures ∙ c.if-passes.false) ∙ c.loop-upper.invariant

pub returns : goal.returns
returns g c =
    let test = passes c.args.self (g.V.StoreView.db c.args.view.now) c.args.subject.now.0 c.args.removals.now in
    sym (any_none test c.args.uppers.now c.loop-upper.upper-index c.loop-upper-test.false) ∙ c.loop-upper.invariant
