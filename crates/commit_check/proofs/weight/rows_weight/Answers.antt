use Rattle.std.proofs.Common.{◌≡◌, ◌≤◌, length, refl, sym, ap, ◌∙◌, subst}
use Rattle.std.specs.Prelude.{Some, slice_get}
use Rattle.std.proofs.lemmas.Option.{slice_get_read}
use Rattle.own_model.specs.declared.schema.Schema.{Schema}
use Rattle.commit_check.proofs.WeightLemmas.{WeighedTo, weighed-end, weighed-more}
use Rattle.commit_check.proofs.weight.rows_weight.Goals as goal

pub loop-number-preserved : goal.loop-number-preserved
loop-number-preserved g c =
    let db = g.V.StoreView.db c.args.view.now in
    let definition = c.definition-item.result in
    let is : slice_get db.schema.tables c.loop-number.number ≡ Some definition =
    subst (λ tables. slice_get tables c.loop-number.number ≡ Some definition) (c.items-definition-items.ensures ∙ ap (λ (s : Schema). s.tables) c.schema.ensures)
    (slice_get_read c.items-definition-items.result.now _ c.loop-number.number definition refl c.loop-number-test.true c.definition-item.is) in
    subst (WeighedTo db _) (sym c.saturating_add-total.ensures) (weighed-more db c.loop-number.number c.loop-number.total definition c.table_weight-weight.result c.loop-number.invariant is c.table_weight-weight.ensures)

pub returns : goal.returns
returns g c =
    let db = g.V.StoreView.db c.args.view.now in
    let past : length db.schema.tables ≤ c.loop-number.number =
    subst (λ n. n ≤ c.loop-number.number) (ap length (c.items-definition-items.ensures ∙ ap (λ (s : Schema). s.tables) c.schema.ensures)) c.loop-number-test.false in
    weighed-end db c.loop-number.number c.loop-number.total c.loop-number.invariant past
