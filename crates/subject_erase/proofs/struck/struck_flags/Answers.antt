use Rattle.std.proofs.Common.{◌≤◌, ◌∙◌, length, ap, subst}
use Rattle.own_model.specs.declared.schema.Schema.{Schema}
use Rattle.subject_model.specs.Stays.{struck}
use Rattle.subject_erase.proofs.TableFlags.{TablesFlagged-end, TablesFlagged-more, TablesFlagged-none}
use Rattle.subject_erase.proofs.struck.struck_flags.Goals as goal

pub loop-number-init : goal.loop-number-init
loop-number-init g c = λ subject owned.
    let db = g.V.StoreView.db c.args.view.now in
    rw (c.new-struck.ensures) (TablesFlagged-none db (struck db subject))

-- one table more
pub loop-number-preserved : goal.loop-number-preserved
loop-number-preserved g c = λ subject owned.
    let db = g.V.StoreView.db c.args.view.now in
    rw (c.in_ok-add.ensures.added)
    (TablesFlagged-more db (struck db subject) c.loop-number.number c.loop-number.struck c.in_ok-table_struck.field-0 (c.loop-number.invariant subject owned) (c.in_ok-table_struck.ensures subject owned))

pub returns : goal.returns
returns g c = λ subject owned.
    let db = g.V.StoreView.db c.args.view.now in
    let past : length db.schema.tables ≤ c.loop-number.number =
    subst (λ n. n ≤ c.loop-number.number) (ap length (c.items-number-end.ensures ∙ ap (λ (s : Schema). s.tables) c.schema.ensures)) c.loop-number-test.false in
    TablesFlagged-end db (struck db subject) c.loop-number.number c.loop-number.struck (c.loop-number.invariant subject owned) past
