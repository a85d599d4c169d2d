use Rattle.std.proofs.Common.{◌≡◌, ℕ, length, sym, ap, ◌∙◌}
use Rattle.own_model.specs.Db.{Row}
use Rattle.own_model.specs.Stored.{rows_at}
use Rattle.subject_model.specs.Named.{NamedRow, name_of}
use Rattle.subject_model.specs.Owners.{owners, reach}
use Rattle.state_model.specs.Weight.{row_weight}
use Rattle.commit_check.specs.Saturated.{saturated}
use Rattle.commit_check.proofs.Listed.{Sets-at}
use Rattle.commit_check.proofs.SaturatedLemmas.{counted-more}
use Rattle.commit_check.proofs.WeightLemmas.{row_weight-counted}
use Rattle.commit_check.proofs.weight.table_weight.Goals as goal

pub loop-at-preserved : goal.loop-at-preserved
loop-at-preserved g c =
    let db = g.V.StoreView.db c.args.view.now in
    let row = c.in-Some.row.now in
    let named : Row → NamedRow = λ row. record { name = name_of c.args.table.0 c.args.definition.now row; row = row } in
    let weight : Row → ℕ = λ row. row_weight db (named row) in
    let owned : length c.owners.result.now ≡ length (owners db (named row).name) =
    ap length c.owners.ensures ∙ Sets-at db (owners db) c.args.sets.now.owners c.args.table.0 c.loop-at.at c.args.definition.now row c.requires.owners c.requires.there (sym c.in-Some.ensures) in
    let reached : length c.reach.result.now ≡ length (reach db (named row).name) =
    ap length c.reach.ensures ∙ Sets-at db (reach db) c.args.sets.now.reach c.args.table.0 c.loop-at.at c.args.definition.now row c.requires.reach c.requires.there (sym c.in-Some.ensures) in
    let own : c.owned_weight-weight.result ≡ saturated (weight row) =
    c.owned_weight-weight.ensures ∙ row_weight-counted db (named row) c.row_size-size.result (length c.owners.result.now) (length c.reach.result.now) c.row_size-size.ensures owned reached in
    counted-more weight (rows_at db.rows c.args.table.0) c.loop-at.at row c.loop-at.total c.owned_weight-weight.result _ (sym c.in-Some.ensures)
    c.loop-at.invariant own c.saturating_add-total.ensures
