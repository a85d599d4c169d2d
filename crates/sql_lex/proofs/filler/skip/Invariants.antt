use Rattle.std.proofs.Common.{length, ◌-◌, ◌≤◌}
use Rattle.sql_lex.proofs.Fillers.{FillsTo}
use Rattle.sql_lex.proofs.filler.skip.Given as goal

abbrev pub invariant-loop-at : goal.invariant-loop-at
invariant-loop-at l = record { within : l.at ≤ length l.bytes; filled : FillsTo l.bytes l.at }

abbrev pub decreases-loop-at : goal.decreases-loop-at
decreases-loop-at l = length l.bytes - l.at
