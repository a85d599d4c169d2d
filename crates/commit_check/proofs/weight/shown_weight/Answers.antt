use Rattle.std.proofs.Common.{◌+◌, ℕ, sym}
use Rattle.std.specs.Prelude.{sum_by}
use Rattle.own_base.specs.declared.row.TheConstants.{ROW_SIZE}
use Rattle.own_model.specs.Db.{Row}
use Rattle.own_model.specs.Stored.{rows_at}
use Rattle.state_model.specs.Weight.{item_size}
use Rattle.commit_check.proofs.SaturatedLemmas.{counted-more}
use Rattle.commit_check.proofs.weight.shown_weight.Goals as goal

pub loop-at-preserved : goal.loop-at-preserved
loop-at-preserved g c =
    let shown : Row → ℕ = λ row. ROW_SIZE + sum_by (item_size row) c.args.items.now in
    counted-more shown (rows_at (g.V.StoreView.db c.args.view.now).rows c.args.table.0) c.loop-at.at c.in-Some.row.now c.loop-at.total c.shown_size-size.result _ (sym c.in-Some.ensures)
    c.loop-at.invariant c.shown_size-size.ensures c.saturating_add-total.ensures
