use Rattle.std.proofs.Common.{List, subst}
use Rattle.std.proofs.lemmas.List.{take_all}
use Rattle.move_model.specs.declared.owner_move.OwnerMove.{OwnerMove}
use Rattle.owner_index.specs.Adds.{Adds, ForSome}
use Rattle.owner_index.proofs.AddsLemmas.{adds-more}
use Rattle.micro_db.specs.Looked.{IsBelowMoved}
use Rattle.micro_db.proofs.looked.add_below_moved.Goals as goal

pub loop-moved-preserved : goal.loop-moved-preserved
loop-moved-preserved g c =
    adds-more (IsBelowMoved (g.N.StoreView.db c.args.after.now)) c.args.moves.now c.loop-moved.moved-index c.moved-item.result c.args.names.now c.loop-moved.names c.add_below.new.work
    c.loop-moved-test.true c.moved-item.is c.loop-moved.invariant c.in_ok-add_below.ensures

pub returns : goal.returns
returns g c =
    subst (λ (moves : List OwnerMove). Adds (ForSome (IsBelowMoved (g.N.StoreView.db c.args.after.now)) moves) c.args.names.now c.loop-moved.names)
    (take_all c.loop-moved.moved-index c.args.moves.now c.loop-moved-test.false) c.loop-moved.invariant
