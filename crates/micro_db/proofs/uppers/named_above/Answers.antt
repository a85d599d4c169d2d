use Rattle.std.proofs.Common.{List, [], ◌∷◌, sym, ◌∙◌, subst}
use Rattle.std.specs.Prelude.{◌≡◌}
use Rattle.std.proofs.lemmas.Result.{IfOk-weaker}
use Rattle.own_base.specs.declared.row_name.RowName.{RowName}
use Rattle.owner_index.proofs.UpperLemmas.{IsNamedBy}
use Rattle.micro_db.specs.Uppers.{AreUppersAlong}
use Rattle.micro_db.proofs.ByLemmas.{uppers-found}
use Rattle.micro_db.proofs.uppers.named_above.Goals as goal

pub returns-in-Some : goal.returns-in-Some
returns-in-Some g c =
    let db = g.N.StoreView.db c.args.after.now in
    IfOk-weaker c.lone.result (λ (names : List RowName). names ≡ c.in-Some.upper ∷ []) (AreUppersAlong db c.args.name.now c.args.edge.now)
    (λ names is. subst (AreUppersAlong db c.args.name.now c.args.edge.now) (sym is)
    (uppers-found db c.args.name.now c.args.edge.now c.args.row.now (record { among = c.requires.among; of_lower = c.requires.of_lower; row_is = c.requires.row }) c.requires.held c.in_ok-upper.field-0
    (subst (λ cell. IsNamedBy cell c.args.edge.now.upper c.in_ok-upper.field-0) c.get.ensures c.in_ok-upper.ensures)
    c.in-Some.upper c.in-Some.is (sym c.is_there.ensures ∙ c.if-is_there.true)))
    c.lone.ensures
