use Rattle.std.proofs.Common.{◌≡◌, ◌≤◌, ◌^◌, drop}
use Rattle.grammar_model.specs.Values.{digits_after}
use Rattle.sql_reader.proofs.literal.magnitude.Given as goal

abbrev pub invariant-loop-digit : goal.invariant-loop-digit
invariant-loop-digit l = record { small : l.number ≤ 2 ^ 63; same : digits_after 0 l.digits ≡ digits_after l.number (drop l.digit-index l.digits) }
