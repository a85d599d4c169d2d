use Rattle.std.proofs.Common.{◌≡◌, ◌-◌, ◌≤◌, length, take}
use Rattle.std.specs.List.{filter}
use Rattle.std.specs.Option.{option_copied}
use Rattle.own_model.specs.Stored.{rows_at}
use Rattle.query_model.specs.Truth.{keeps}
use Rattle.query_eval.proofs.kept.kept_by_runs.Given as goal

-- the rows before the place are gone through
abbrev pub invariant-loop-at : goal.invariant-loop-at
invariant-loop-at g l =
    (l.at ≤ length (rows_at (g.V.StoreView.db l.view).rows l.table.0))
    × (l.kept ≡ filter (keeps (option_copied l.cond)) (take l.at (rows_at (g.V.StoreView.db l.view).rows l.table.0)))

abbrev pub decreases-loop-at : goal.decreases-loop-at
decreases-loop-at g l = l.span.upto - l.at
