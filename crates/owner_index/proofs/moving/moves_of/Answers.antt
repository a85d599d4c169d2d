use Rattle.std.proofs.Common.{[], sym, subst}
use Rattle.owner_index.specs.HeldMoves.{AreHeldMoves}
use Rattle.owner_index.proofs.HeldMoveLemmas.{moves-more, moves-start}
use Rattle.owner_index.proofs.moving.moves_of.Goals as goal

pub loop-name-init : goal.loop-name-init
loop-name-init c = λ rises also. subst (AreHeldMoves c.args.old.now c.args.new.now []) (sym c.new-moves.ensures) (moves-start c.args.old.now c.args.new.now)

pub loop-name-preserved : goal.loop-name-preserved
loop-name-preserved c = λ rises also.
    moves-more c.args.old.now c.args.new.now c.args.names.now c.requires c.loop-name.name-index c.name-item.result c.loop-name-test.true c.name-item.is c.loop-name.moves c.add_moves.new.moves (c.loop-name.invariant rises also) (c.in_ok-add_moves.ensures rises also)
