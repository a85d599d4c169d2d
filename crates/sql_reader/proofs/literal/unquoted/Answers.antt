use Rattle.std.specs.Prelude.{string_bytes}
use Rattle.sql_reader.proofs.Exactly.{ok-then, option-then, inside-quoted, inside-none}
use Rattle.sql_reader.proofs.literal.unquoted.Goals as goal

pub returns-in-Some : goal.returns-in-Some
returns-in-Some c =
    let front = c.in-Some.ensures.found in
    ok-then c.closed.result _ _ (λ found. option-then found _ _ _ _ (λ none. inside-none c.args.text.now c.in-Some.inside.now front none) (λ value is. inside-quoted c.args.text.now c.in-Some.inside.now (string_bytes value) front is)) c.closed.ensures
