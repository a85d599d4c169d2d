use Rattle.own_base.specs.declared.change.Change.{Change}
use Rattle.change_check.proofs.UnownedCells.{IsTakenBy}
use Rattle.change_check.proofs.owner.least_by_changes.Given as goal

-- what was found is taken further, by the changes so far
abbrev pub invariant-loop-change : goal.invariant-loop-change
invariant-loop-change g l = IsTakenBy (g.V.StoreView.db l.view) (λ (change : Change). change.name) l.changes l.change-index l.fn.found l.least
