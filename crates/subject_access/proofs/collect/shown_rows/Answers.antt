use Rattle.std.proofs.Common.{◌≡◌, ◌≤◌, length, refl, ap, ◌∙◌, subst}
use Rattle.std.specs.Prelude.{Some, slice_get}
use Rattle.std.proofs.lemmas.Option.{slice_get_read}
use Rattle.own_model.specs.declared.schema.Schema.{Schema}
use Rattle.subject_access.proofs.ShownLemmas.{shown_to-all, shown_to-more, shown_to-start}
use Rattle.subject_access.proofs.collect.shown_rows.Goals as goal

pub loop-number-init : goal.loop-number-init
loop-number-init g c = rw (c.new-shown.ensures) (shown_to-start (g.V.StoreView.db c.args.access.now.view.now) c.args.access.now.subject.now.0)

-- the next table is one of the schema's
pub add_table-requires-clause-there : goal.add_table-requires-clause-there
add_table-requires-clause-there g c =
    let definition = c.definition-item.result in
    subst (λ tables. slice_get tables c.loop-number.number ≡ Some definition) (c.items-definition-items.ensures ∙ ap (λ (s : Schema). s.tables) c.schema.ensures)
    (slice_get_read c.items-definition-items.result.now _ c.loop-number.number definition refl c.loop-number-test.true c.definition-item.is)

-- one table more is shown
pub loop-number-preserved : goal.loop-number-preserved
loop-number-preserved g c =
    let db = g.V.StoreView.db c.args.access.now.view.now in
    let definition = c.definition-item.result in
    let there : slice_get db.schema.tables c.loop-number.number ≡ Some definition =
    subst (λ tables. slice_get tables c.loop-number.number ≡ Some definition) (c.items-definition-items.ensures ∙ ap (λ (s : Schema). s.tables) c.schema.ensures)
    (slice_get_read c.items-definition-items.result.now _ c.loop-number.number definition refl c.loop-number-test.true c.definition-item.is) in
    shown_to-more db c.args.access.now.subject.now.0 c.loop-number.number definition c.loop-number.shown c.add_table.new.shown c.loop-number.invariant there c.in_ok-add_table.ensures

pub returns : goal.returns
returns g c =
    let db = g.V.StoreView.db c.args.access.now.view.now in
    let past : length db.schema.tables ≤ c.loop-number.number =
    subst (λ n. n ≤ c.loop-number.number) (ap length (c.items-definition-items.ensures ∙ ap (λ (s : Schema). s.tables) c.schema.ensures)) c.loop-number-test.false in
    shown_to-all db c.args.access.now.subject.now.0 c.loop-number.number c.loop-number.shown c.loop-number.invariant past
