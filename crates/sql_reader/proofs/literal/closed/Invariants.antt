use Rattle.std.proofs.Common.{◌≡◌, length, false, IsUtf8}
use Rattle.std.specs.Prelude.{string_bytes}
use Rattle.sql_reader.specs.reading.Judges.{inside}
use Rattle.sql_reader.proofs.Literals.{prefixed}
use Rattle.sql_reader.proofs.literal.closed.Given as goal

abbrev pub invariant-loop-front : goal.invariant-loop-front
invariant-loop-front l = record { is_text : IsUtf8 l.rest; same : inside false l.fn.text ≡ prefixed (string_bytes l.value) (inside false l.rest) }

abbrev pub decreases-loop-front : goal.decreases-loop-front
decreases-loop-front l = length l.rest
