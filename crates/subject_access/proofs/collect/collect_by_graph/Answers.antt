use Rattle.std.proofs.Common.{◌≡◌, true, false, ap, ◌∙◌}
use Rattle.std.specs.Prelude.{is_some}
use Rattle.own_model.specs.declared.refusal.Refusal.TheVariants.{NoSubject}
use Rattle.own_model.specs.declared.schema.Schema.{Schema}
use Rattle.own_model.specs.Stored.{row_named}
use Rattle.subject_model.specs.Get.{table_name}
use Rattle.subject_access.proofs.GetLemmas.{found-lent, got-shown, refused-absent}
use Rattle.subject_access.proofs.collect.collect_by_graph.Goals as goal

-- there is no such row
pub returns-then-is_none : goal.returns-then-is_none
returns-then-is_none g c =
    let db = g.V.StoreView.db c.args.view.now in
    let absent : is_some (row_named db.schema db.rows c.args.subject.now.0) ≡ false =
    found-lent c.row.result (row_named db.schema db.rows c.args.subject.now.0) c.is_none.result true c.row.ensures c.is_none.ensures c.if-is_none.true in
    refused-absent db c.args.subject.now.0 c.in_ok-refusal.refusal absent
    (c.in_ok-refusal.ensures ∙ ap (λ (s : Schema). NoSubject (table_name s c.args.subject.now.0.table.0) c.args.subject.now.0.key) c.schema.ensures)

-- there is one, and what it reaches is shown
pub returns : goal.returns
returns g c =
    let db = g.V.StoreView.db c.args.view.now in
    let there : is_some (row_named db.schema db.rows c.args.subject.now.0) ≡ true =
    found-lent c.row.result (row_named db.schema db.rows c.args.subject.now.0) c.is_none.result false c.row.ensures c.is_none.ensures c.if-is_none.false in
    got-shown db c.args.subject.now.0 c.in_ok-shown.shown there c.in_ok-shown.ensures
