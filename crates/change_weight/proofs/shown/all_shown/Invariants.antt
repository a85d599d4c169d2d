use Rattle.std.proofs.Common.{◌≡◌, take}
use Rattle.std.specs.Prelude.{sum_by}
use Rattle.commit_check.specs.Saturated.{saturated}
use Rattle.change_weight.specs.Shown.{shown_size}
use Rattle.change_weight.proofs.shown.all_shown.Given as goal

-- the views so far are counted
abbrev pub invariant-loop-view : goal.invariant-loop-view
invariant-loop-view l = l.size ≡ saturated (sum_by (shown_size l.table.0 l.row) (take l.view-index l.view-items))
