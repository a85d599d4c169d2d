use Rattle.std.proofs.Common.{take}
use Rattle.owner_index.specs.HeldMoves.{AreHeldMoves, DoRise}
use Rattle.owner_index.proofs.moving.moves_of.Given as goal

-- the moves of the rows so far are there
abbrev pub invariant-loop-name : goal.invariant-loop-name
invariant-loop-name l = DoRise l.old → DoRise l.new → AreHeldMoves l.old l.new (take l.name-index l.names) l.moves
