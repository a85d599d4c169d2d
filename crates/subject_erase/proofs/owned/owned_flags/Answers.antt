use Rattle.std.proofs.Common.{◌≤◌, ◌∙◌, length, ap, subst}
use Rattle.own_model.specs.declared.schema.Schema.{Schema}
use Rattle.subject_model.specs.Owners.{owns}
use Rattle.subject_erase.proofs.TableFlags.{TablesFlagged-end, TablesFlagged-more, TablesFlagged-none}
use Rattle.subject_erase.proofs.owned.owned_flags.Goals as goal

pub loop-number-init : goal.loop-number-init
loop-number-init g c =
    let db = g.V.StoreView.db c.args.view.now in
    rw (c.new-owned.ensures) (TablesFlagged-none db (owns db c.args.subject.now.0))

-- one table more
pub loop-number-preserved : goal.loop-number-preserved
loop-number-preserved g c =
    let db = g.V.StoreView.db c.args.view.now in
    rw (c.in_ok-add.ensures.added)
    (TablesFlagged-more db (owns db c.args.subject.now.0) c.loop-number.number c.loop-number.owned c.in_ok-table_owned.field-0 c.loop-number.invariant c.in_ok-table_owned.ensures)

pub returns : goal.returns
returns g c =
    let db = g.V.StoreView.db c.args.view.now in
    let past : length db.schema.tables ≤ c.loop-number.number =
    subst (λ n. n ≤ c.loop-number.number) (ap length (c.items-number-end.ensures ∙ ap (λ (s : Schema). s.tables) c.schema.ensures)) c.loop-number-test.false in
    TablesFlagged-end db (owns db c.args.subject.now.0) c.loop-number.number c.loop-number.owned c.loop-number.invariant past
