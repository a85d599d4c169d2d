use Rattle.std.proofs.Common.{sym, ◌∙◌, subst}
use Rattle.std.proofs.lemmas.Result.{on_ok_weaker}
use Rattle.owner_index.proofs.UpperLemmas.{IsNamedBy, adds-found}
use Rattle.owner_index.proofs.upper.add_named.Goals as goal

pub returns-in-Some : goal.returns-in-Some
returns-in-Some g c =
    let db = g.V.StoreView.db c.args.view.now in
    on_ok_weaker c.add.result
    (λ added. adds-found db c.args.name.now c.args.edge.now c.args.row.now (record { among = c.requires.among; of_lower = c.requires.of_lower; row_is = c.requires.row }) c.requires.held c.in_ok-upper.field-0
    (subst (λ cell. IsNamedBy cell c.args.edge.now.upper c.in_ok-upper.field-0) c.get.ensures c.in_ok-upper.ensures)
    c.in-Some.upper c.args.uppers.now c.add.new.self c.in-Some.is (sym c.is_there.ensures ∙ c.if-is_there.true) added)
    c.add.ensures.added
