use Rattle.std.proofs.Common.{◌≡◌, ◌++◌, map, take}
use Rattle.std.specs.Prelude.{filter}
use Rattle.owner_index.specs.HeldMoves.{DoRise, is_move, move_at}
use Rattle.owner_index.proofs.moving.add_moves.Given as goal

-- the moves of the subjects so far are there
abbrev pub invariant-loop-subject : goal.invariant-loop-subject
invariant-loop-subject l = DoRise l.old → DoRise l.new → l.moves ≡ l.fn.moves ++ filter is_move (map (move_at l.old l.new l.name) (take l.subject-index l.subject-items))
