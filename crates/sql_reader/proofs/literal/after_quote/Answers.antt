use Rattle.std.proofs.Common.{◌<◌, length, get_or, arith, ap, sym, ◌∙◌, false-eqb}
use Rattle.std.proofs.lemmas.Str.{IsCharBoundary-after_ascii}
use Rattle.sql_reader.proofs.literal.after_quote.Goals as goal

-- the first byte is ASCII
pub range_from-requires : goal.range_from-requires
range_from-requires c =
    let same = c.as_bytes-bytes.ensures.value in
    let some : 0 < length c.args.text.now = omega (arith, ap length same, false-eqb _ 0 (sym c.if-is_empty.false ∙ c.is_empty.ensures)) in
    λ _. IsCharBoundary-after_ascii c.args.text.now 0 c.utf8.text some (omega (arith, ap (λ l. get_or l 0 0) same, c.if-bytes-ne-QUOTE.false))
