use Rattle.std.proofs.Common.{◌∙◌, ◌++◌, List, map, sym, ap, subst}
use Rattle.std.specs.Prelude.{filter}
use Rattle.std.proofs.lemmas.List.{take_all}
use Rattle.own_base.specs.declared.row_name.Subject.{Subject}
use Rattle.owner_sets.specs.IsSortedSet.{IsSortedSet}
use Rattle.owner_index.specs.HeldMoves.{is_move, move_at, reachers}
use Rattle.owner_index.proofs.HeldMoveLemmas.{adds-moves, adds-no-moves}
use Rattle.owner_index.proofs.moving.add_moves.Goals as goal

pub returns-then-is_kept : goal.returns-then-is_kept
returns-then-is_kept c = λ rises also.
    adds-no-moves c.args.old.now c.args.new.now c.args.name.now c.args.moves.now (c.is_kept.ensures.owners c.if-is_kept.true) (c.is_kept.ensures.reach c.if-is_kept.true)

pub returns : goal.returns
returns c = λ rises also.
    adds-moves c.args.old.now c.args.new.now c.args.name.now c.items-subject-items.result.now (subst (IsSortedSet (reachers c.args.old.now c.args.new.now c.args.name.now)) (sym c.items-subject-items.ensures) c.in_ok-subjects.ensures)
    c.args.moves.now c.loop-subject.moves
    (c.loop-subject.invariant rises also ∙ ap (λ (set : List Subject). c.args.moves.now ++ filter is_move (map (move_at c.args.old.now c.args.new.now c.args.name.now) set)) (take_all c.loop-subject.subject-index c.items-subject-items.result.now c.loop-subject-test.false))
