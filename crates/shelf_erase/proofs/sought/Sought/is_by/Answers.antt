use Rattle.std.proofs.Common.{sym, ◌∙◌}
use Rattle.shelf_erase.proofs.SoughtLemmas.{counted, not-counted}
use Rattle.std.proofs.lemmas.Result.{IfOk-weaker}
use Rattle.shelf_erase.proofs.sought.Sought.is_by.Goals as goal

pub returns-then-counts : goal.returns-then-counts
returns-then-counts g c =
    let db = g.V.StoreView.db c.args.view.now in
    IfOk-weaker c.is_over.result _ _
    (λ is same. counted db c.args.self c.args.subject.now.0 c.args.removals.now c.args.name.now c.args.edge.now is (sym c.counts.ensures ∙ c.if-counts.true) same) c.is_over.ensures

pub returns-else-counts : goal.returns-else-counts
returns-else-counts g c =
    not-counted (g.V.StoreView.db c.args.view.now) c.args.self c.args.subject.now.0 c.args.removals.now c.args.name.now c.args.edge.now (sym c.counts.ensures ∙ c.if-counts.false)
