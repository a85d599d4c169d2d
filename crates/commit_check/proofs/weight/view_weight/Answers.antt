use Rattle.std.proofs.Common.{◌≡◌, ◌≤◌, length, ap, ◌∙◌, arith}
use Rattle.own_model.specs.declared.schema.Schema.{Schema}
use Rattle.commit_check.proofs.RowCounts.{length-rising}
use Rattle.commit_check.proofs.WeightLemmas.{view-absent}
use Rattle.commit_check.proofs.weight.view_weight.Goals as goal

pub returns-else-table-items : goal.returns-else-table-items
returns-else-table-items g c =
    let db = g.V.StoreView.db c.args.view.now in
    let listed : length db.rows ≡ length db.schema.tables = length-rising db.schema.tables db.rows (g.met.V.StoreView.ordered c.args.view.now).rising in
    let named : length c.items.result.now ≡ length db.schema.tables = ap length (c.items.ensures ∙ ap (λ (s : Schema). s.tables) c.schema.ensures) in
    let past : length db.rows ≤ c.in-Table.table.0 = omega arith in
    view-absent db c.args.definition.now c.in-Table.table c.in-Table.is past
