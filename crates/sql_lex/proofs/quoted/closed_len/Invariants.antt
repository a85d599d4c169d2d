use Rattle.std.proofs.Common.{length, ◌-◌, ◌≤◌}
use Rattle.sql_lex.proofs.Quotes.{DoubledTo}
use Rattle.sql_lex.proofs.quoted.closed_len.Given as goal

abbrev pub invariant-loop-at : goal.invariant-loop-at
invariant-loop-at l = record { within : l.at ≤ length l.bytes; doubled : DoubledTo l.bytes l.at }

abbrev pub decreases-loop-at : goal.decreases-loop-at
decreases-loop-at l = length l.bytes - l.at
