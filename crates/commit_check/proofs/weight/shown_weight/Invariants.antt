use Rattle.std.proofs.Common.{◌≡◌, ◌+◌, take}
use Rattle.std.specs.Prelude.{sum_by}
use Rattle.commit_check.specs.Saturated.{saturated}
use Rattle.own_base.specs.declared.row.TheConstants.{ROW_SIZE}
use Rattle.own_model.specs.Stored.{rows_at}
use Rattle.state_model.specs.Weight.{item_size}
use Rattle.commit_check.proofs.weight.shown_weight.Given as goal

-- the rows so far are counted
abbrev pub invariant-loop-at : goal.invariant-loop-at
invariant-loop-at g l = l.total ≡ saturated (sum_by (λ row. ROW_SIZE + sum_by (item_size row) l.items) (take l.at (rows_at (g.V.StoreView.db l.view).rows l.table.0)))
