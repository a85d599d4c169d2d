use Rattle.std.proofs.Common.{◌≡◌, refl, arith}
use Rattle.std.specs.Prelude.{Some, slice_get}
use Rattle.std.proofs.lemmas.Option.{slice_get_read}
use Rattle.schema_model.proofs.Places.{place-lt}
use Rattle.move_model.specs.declared.owner_move.OwnerMove.{OwnerMove}
use Rattle.change_check.proofs.UnownedCells.{taken_more}
use Rattle.change_check.proofs.owner.least_by_moves.Goals as goal

pub loop-one-preserved : goal.loop-one-preserved
loop-one-preserved g c =
    let moves = c.args.moves.now in
    let at = c.loop-one.one-index in
    let own = c.one-item.result in
    let own_is : slice_get moves at ≡ Some own = slice_get_read moves _ at own refl c.loop-one-test.true c.one-item.is in
    let step = c.in_ok-least.ensures {u = tt} in
    taken_more (g.V.StoreView.db c.args.view.now) (λ (move : OwnerMove). move.name) moves c.args.found at own c.loop-one.least c.in_ok-least.least c.loop-one.invariant own_is step.further step.caught

pub returns-clause-caught : goal.returns-clause-caught
returns-clause-caught g c = λ place move is. let within = place-lt c.args.moves.now place move is in c.loop-one.invariant.caught place move (omega arith) is
