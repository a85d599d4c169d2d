use Rattle.std.proofs.Common.{◌≡◌, ap, arith, length, sym, ◌∙◌}
use Rattle.std.proofs.lemmas.Bool.Decides.{nat_tests}
use Rattle.std.proofs.lemmas.Result.{IfOk-weaker}
use Rattle.query_model.specs.Query.{projected}
use Rattle.query_eval.proofs.ShowColumns.{shows_itself}
use Rattle.query_eval.proofs.shown.shown_of.Goals as goal

-- the row is shown as it is
pub returns-in-Some : goal.returns-in-Some
returns-in-Some c =
    let items = c.args.items.now in
    let same : length c.values.result.now ≡ length items = grind (arith, nat_tests) in
    let long : length c.in-Some.whole.now ≡ length items = sym (ap length c.values.ensures) ∙ same in
    IfOk-weaker c.copy.result _ _
    (λ shown is. is ∙ (shows_itself items c.in-Some.whole.now (sym c.requires ∙ c.if-not-are_columns.false) long ∙ ap (projected items) c.in-Some.ensures))
    c.copy.ensures
