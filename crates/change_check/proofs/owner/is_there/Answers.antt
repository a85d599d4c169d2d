use Rattle.std.proofs.Common.{◌≡◌, ◌≤◌, length, sym, ap, ◌∙◌, arith}
use Rattle.std.proofs.lemmas.Bool.{false_from_ne_true, le-ltb}
use Rattle.own_model.specs.declared.schema.Schema.{Schema}
use Rattle.schema_model.proofs.Places.{place-lt}
use Rattle.subject_model.proofs.NamedLemmas.{table-there}
use Rattle.change_check.proofs.owner.is_there.Goals as goal

-- no row stands in a table that there isn't
pub returns-else-table-items : goal.returns-else-table-items
returns-else-table-items g c =
    let db = g.V.StoreView.db c.args.view.now in
    let number = c.args.name.now.table.0 in
    let past : length c.items.result.now ≤ number = c.if-table-items.false in
    let lists : length c.items.result.now ≡ length db.schema.tables = ap length (c.items.ensures ∙ ap (λ (s : Schema). s.tables) c.schema.ensures) in
    le-ltb number (length c.items.result.now) past
    ∙ sym (false_from_ne_true _ (λ there.
    let found = table-there db c.args.name.now there in
    let within = place-lt db.schema.tables number found.0 found.1 in omega arith))
