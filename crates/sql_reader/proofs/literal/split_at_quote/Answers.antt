use Rattle.std.proofs.Common.{length, get_or, arith, ap}
use Rattle.std.proofs.lemmas.Str.{IsCharBoundary-after_ascii}
use Rattle.sql_reader.proofs.literal.split_at_quote.Goals as goal

-- the quote is ASCII
pub range_from-requires : goal.range_from-requires
range_from-requires c =
    let same = c.as_bytes.ensures.value in
    let found = c.in-Some.ensures.found in
    λ _. IsCharBoundary-after_ascii c.args.text.now c.in-Some.at c.utf8.text (omega (arith, ap length same, found.0)) (omega (arith, ap (λ l. get_or l c.in-Some.at 0) same, found.1))
