use Rattle.std.proofs.Common.{◌≡◌, ◌++◌, length, IsUtf8}
use Rattle.std.specs.List.{flat_map}
use Rattle.text_model.specs.Shown.{shown_byte}
use Rattle.sql_print.proofs.quoted.push_shown_bytes.Given as goal

-- what is written, with the rest of the text
abbrev pub invariant-loop-at : goal.invariant-loop-at
invariant-loop-at l = record { is_text : IsUtf8 l.rest; same : l.buffer ++ flat_map shown_byte l.rest ≡ l.initial.buffer ++ flat_map shown_byte l.text }

abbrev pub decreases-loop-at : goal.decreases-loop-at
decreases-loop-at l = length l.rest
