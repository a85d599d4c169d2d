use Rattle.std.proofs.Common.{◌≡◌, take}
use Rattle.commit_check.specs.Saturated.{saturated}
use Rattle.change_weight.specs.WeightAt.{names_weight}
use Rattle.change_weight.proofs.weight.names_weight.Given as goal

-- the names so far are counted
abbrev pub invariant-loop-name : goal.invariant-loop-name
invariant-loop-name g l = l.total ≡ saturated (names_weight (g.B.StoreView.db l.store) (take l.name-index l.names))
