use Rattle.move_model.specs.declared.owner_move.OwnerMove.{OwnerMove}
use Rattle.change_check.proofs.UnownedCells.{IsTakenBy}
use Rattle.change_check.proofs.owner.least_by_moves.Given as goal

-- what was found is taken further, by the moves so far
abbrev pub invariant-loop-one : goal.invariant-loop-one
invariant-loop-one g l = IsTakenBy (g.V.StoreView.db l.view) (λ (move : OwnerMove). move.name) l.moves l.one-index l.fn.found l.least
