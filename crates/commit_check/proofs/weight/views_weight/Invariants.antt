use Rattle.std.proofs.Common.{◌≡◌, take}
use Rattle.std.specs.Prelude.{sum_by}
use Rattle.commit_check.specs.Saturated.{saturated}
use Rattle.state_model.specs.Weight.{view_weight}
use Rattle.commit_check.proofs.weight.views_weight.Given as goal

-- the views so far are counted
abbrev pub invariant-loop-definition : goal.invariant-loop-definition
invariant-loop-definition g l =
    l.total ≡ saturated (sum_by (view_weight (g.V.StoreView.db l.view)) (take l.definition-index l.definition-items))
