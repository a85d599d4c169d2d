use Rattle.std.proofs.Common.{sym, ◌∙◌}
use Rattle.state_model.specs.Weight.{weight}
use Rattle.commit_check.proofs.WholeLemmas.{by_judged, by_owner, by_reference, by_rows, by_unique}
use Rattle.commit_check.proofs.whole.judge.Goals as goal

pub returns-in-Some : goal.returns-in-Some
returns-in-Some g c =
    let db = g.V.StoreView.db c.args.after.now in
    by_unique db _ (sym c.in_ok-unique.ensures ∙ c.in-Some.is)

pub returns-in-Some-2 : goal.returns-in-Some-2
returns-in-Some-2 g c =
    let db = g.V.StoreView.db c.args.after.now in
    by_reference db (sym c.in_ok-unique.ensures ∙ c.in_default.is) _ (sym c.in_ok-reference.ensures ∙ c.in-Some-2.is)

pub returns-in-Some-3 : goal.returns-in-Some-3
returns-in-Some-3 g c =
    let db = g.V.StoreView.db c.args.after.now in
    by_owner db (sym c.in_ok-unique.ensures ∙ c.in_default.is) (sym c.in_ok-reference.ensures ∙ c.in_default-2.is) _ (sym c.in_ok-owner.ensures ∙ c.in-Some-3.is)

pub returns-in-Some-row_limit_fault : goal.returns-in-Some-row_limit_fault
returns-in-Some-row_limit_fault g c =
    let db = g.V.StoreView.db c.args.after.now in
    by_rows db (sym c.in_ok-unique.ensures ∙ c.in_default.is) (sym c.in_ok-reference.ensures ∙ c.in_default-2.is) (sym c.in_ok-owner.ensures ∙ c.in_default-3.is) _
    (sym c.in-Some-row_limit_fault.ensures)

pub returns : goal.returns
returns g c =
    let db = g.V.StoreView.db c.args.after.now in
    by_judged db (sym c.in_ok-unique.ensures ∙ c.in_default.is) (sym c.in_ok-reference.ensures ∙ c.in_default-2.is) (sym c.in_ok-owner.ensures ∙ c.in_default-3.is)
    (sym c.in_default-row_limit_fault.ensures) _ (c.judge_weight.ensures (weight db) c.weight_of.ensures)
