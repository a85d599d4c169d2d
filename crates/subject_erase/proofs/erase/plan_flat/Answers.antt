use Rattle.std.proofs.Common.{◌≡◌, sym, subst}
use Rattle.std.proofs.lemmas.Result.{IfOk-weaker}
use Rattle.subject_erase.specs.Plan.{IsPlan, plan_of}
use Rattle.subject_erase.proofs.erase.plan_flat.Goals as goal

pub returns : goal.returns
returns g c =
    let db = g.V.StoreView.db c.args.view.now in
    let subject = c.args.subject.now.0 in
    IfOk-weaker c.of_changes.result (λ plan. plan ≡ plan_of c.in_ok-changes.changes) (IsPlan db subject)
    (λ plan is. subst (IsPlan db subject) (sym is) c.in_ok-changes.ensures.plan) c.of_changes.ensures
