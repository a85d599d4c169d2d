use Rattle.std.proofs.Common.{◌≡◌, ◌-◌, length}
use Rattle.sql_reader.proofs.CutTexts.{Chain}
use Rattle.sql_reader.proofs.tokens.tokens.Given as goal

abbrev pub invariant-loop-token : goal.invariant-loop-token
invariant-loop-token l = record { chain : Chain (record { text = l.text; at = 0 }) l.tokens.items l.lexer; same_text : l.lexer.text ≡ l.text }

abbrev pub decreases-loop-token : goal.decreases-loop-token
decreases-loop-token l = length l.lexer.text - l.lexer.at
