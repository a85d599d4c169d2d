use Rattle.std.proofs.Common.{◌≡◌, ◌-◌, ◌≤◌, length, take}
use Rattle.std.specs.List.{filter}
use Rattle.std.specs.Option.{option_copied}
use Rattle.query_model.specs.Truth.{keeps}
use Rattle.view_select.proofs.ShownRuns.{rows_of}
use Rattle.view_select.proofs.kept.kept_in_view.Given as goal

-- the rows before the place are gone through
abbrev pub invariant-loop-at : goal.invariant-loop-at
invariant-loop-at g l =
    (l.at ≤ length (rows_of (g.V.StoreView.db l.store) l.number))
    × (l.kept ≡ filter (keeps (option_copied l.cond)) (take l.at (rows_of (g.V.StoreView.db l.store) l.number)))

abbrev pub decreases-loop-at : goal.decreases-loop-at
decreases-loop-at g l = l.count - l.at
