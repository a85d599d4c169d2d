use Rattle.std.proofs.Common.{arith, ◌+◌, drop, length, refl, ◌∙◌, ap}
use Rattle.std.proofs.lemmas.List.{length-drop}
use Rattle.sql_lex.proofs.Fillers.{range_from_is}
use Rattle.sql_lex.proofs.Nexts.{IsNext-found}
use Rattle.sql_lex.proofs.lexer.token_at.Goals as goal

pub returns-in-Some : goal.returns-in-Some
returns-in-Some c =
    let bytes = c.as_bytes-bytes.ensures.value in
    let skip = c.skip.ensures in
    let before = range_from_is c.args.at _ ∙ ap (drop c.args.at) bytes in
    IsNext-found _ _ _ _ c.skip.result c.in-Some.len before skip.within skip.skips refl
    (range_from_is (c.args.at + c.skip.result) _ ∙ ap (drop (c.args.at + c.skip.result)) bytes) refl (omega (arith, skip.within, ap length before, length-drop c.args.at c.args.text.now)) c.in-Some.ensures.found c.slice.ensures
