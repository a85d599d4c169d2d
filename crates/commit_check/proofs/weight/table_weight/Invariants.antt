use Rattle.std.proofs.Common.{◌≡◌, take}
use Rattle.std.specs.Prelude.{sum_by}
use Rattle.commit_check.specs.Saturated.{saturated}
use Rattle.own_model.specs.Stored.{rows_at}
use Rattle.subject_model.specs.Named.{name_of}
use Rattle.state_model.specs.Weight.{row_weight}
use Rattle.commit_check.proofs.weight.table_weight.Given as goal

-- the rows so far are counted
abbrev pub invariant-loop-at : goal.invariant-loop-at
invariant-loop-at g l =
    l.total ≡ saturated (sum_by (λ row. row_weight (g.V.StoreView.db l.view) (record { name = name_of l.table.0 l.fn.definition row; row = row }))
    (take l.at (rows_at (g.V.StoreView.db l.view).rows l.table.0)))
