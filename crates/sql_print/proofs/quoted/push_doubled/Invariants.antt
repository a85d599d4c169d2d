use Rattle.std.proofs.Common.{◌≡◌, ◌++◌, length, IsUtf8}
use Rattle.sql_lex.specs.Tokens.{doubled}
use Rattle.sql_print.proofs.quoted.push_doubled.Given as goal

-- what is written, with the rest of the text
abbrev pub invariant-loop-at : goal.invariant-loop-at
invariant-loop-at l = record { is_text : IsUtf8 l.rest; same : l.buffer ++ doubled l.rest ≡ l.initial.buffer ++ doubled l.text }

abbrev pub decreases-loop-at : goal.decreases-loop-at
decreases-loop-at l = length l.rest
