use Rattle.std.proofs.Common.{◌≤◌, ◌∙◌, length, ap, subst}
use Rattle.own_model.specs.declared.schema.Schema.{Schema}
use Rattle.subject_model.specs.Stays.{stays}
use Rattle.subject_erase.proofs.StayMarks.{map-stays}
use Rattle.subject_erase.proofs.TableFlags.{TablesFlagged-end, TablesFlagged-more, TablesFlagged-none}
use Rattle.subject_erase.proofs.staying.staying_given.Goals as goal

pub loop-number-init : goal.loop-number-init
loop-number-init g c = λ subject of_subjects owned claimed.
    let db = g.V.StoreView.db c.args.view.now in
    rw (c.new-staying.ensures) (TablesFlagged-none db (stays db subject))

-- one table more
pub loop-number-preserved : goal.loop-number-preserved
loop-number-preserved g c = λ subject of_subjects owned claimed.
    let db = g.V.StoreView.db c.args.view.now in
    rw (c.in_ok-add.ensures.added)
    (TablesFlagged-more db (stays db subject) c.loop-number.number c.loop-number.staying c.in_ok-table_staying.field-0 (c.loop-number.invariant subject of_subjects owned claimed)
    (map-stays db subject (g.met.V.StoreView.ordered c.args.view.now) c.requires.owner of_subjects (record { 0 = c.loop-number.number }) c.args.owned.now c.args.claimed.now c.in_ok-table_staying.field-0 owned claimed c.in_ok-table_staying.ensures))

pub returns : goal.returns
returns g c = λ subject of_subjects owned claimed.
    let db = g.V.StoreView.db c.args.view.now in
    let past : length db.schema.tables ≤ c.loop-number.number =
    subst (λ n. n ≤ c.loop-number.number) (ap length (c.items-number-end.ensures ∙ ap (λ (s : Schema). s.tables) c.schema.ensures)) c.loop-number-test.false in
    TablesFlagged-end db (stays db subject) c.loop-number.number c.loop-number.staying (c.loop-number.invariant subject of_subjects owned claimed) past
