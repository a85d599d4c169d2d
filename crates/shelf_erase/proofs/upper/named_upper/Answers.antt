use Rattle.std.proofs.Common.{sym, ◌∙◌, subst}
use Rattle.std.proofs.lemmas.Result.{IfOk-weaker}
use Rattle.shelf_erase.proofs.UpperLemmas.{IsNamedBy, one-upper}
use Rattle.shelf_erase.proofs.upper.named_upper.Goals as goal

pub returns-then-is_there : goal.returns-then-is_there
returns-then-is_there g c =
    let db = g.V.StoreView.db c.args.view.now in
    IfOk-weaker c.alone.result _ _
    (λ uppers is. one-upper db c.args.name.now c.args.edge.now c.args.row.now (record { among = c.requires.among; of_lower = c.requires.of_lower; row_is = c.requires.row }) c.requires.held c.in_ok-upper.field-0
    (subst (λ cell. IsNamedBy cell c.args.edge.now.upper c.in_ok-upper.field-0) c.get.ensures c.in_ok-upper.ensures)
    c.in-Some.upper uppers c.in-Some.is (sym c.is_there.ensures ∙ c.if-is_there.true) is)
    c.alone.ensures
