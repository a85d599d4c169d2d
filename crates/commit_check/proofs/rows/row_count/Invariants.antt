use Rattle.std.proofs.Common.{◌≡◌, min, ◌-◌, ◌^◌, length, take}
use Rattle.std.specs.Prelude.{sum_by}
use Rattle.commit_check.proofs.rows.row_count.Given as goal

-- the tables so far are counted
abbrev pub invariant-loop-number : goal.invariant-loop-number
invariant-loop-number g l = l.count ≡ min (sum_by length (take l.number (g.V.StoreView.db l.view).rows)) (2 ^ 64 - 1)
