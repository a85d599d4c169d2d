use Rattle.std.proofs.Common.{◌≡◌, ◌<◌, ◌++◌, ◌∷◌, [], length, sym, ap, ◌∙◌, arith, false-eqb}
use Rattle.std.specs.Prelude.{Some}
use Rattle.sql_reader.proofs.Literals.{prefixed, inside-pair, inside-end, inside-more, inside-open, no_bytes}
use Rattle.sql_reader.specs.reading.Judges.{inside}
use Rattle.std.proofs.Common.{false}
use Rattle.sql_reader.proofs.literal.closed.Goals as goal

-- the quote is the last byte
pub returns-then-is_empty : goal.returns-then-is_empty
returns-then-is_empty c =
    let parts = c.in-Some.ensures in
    let empty : c.in-Some.back.now ≡ [] = no_bytes c.in-Some.back.now (sym c.is_empty.ensures ∙ c.if-is_empty.true) in
    inside-end _ c.in-Some.front.now c.loop-front.rest.now _ c.loop-front.invariant.same (parts.found.0 ∙ ap (λ l. c.in-Some.front.now ++ 39 ∷ l) empty) parts.found.1
    ∙ ap Some (sym c.in_ok-push_str.ensures.bytes)

-- something comes after it
pub returns-in_default-after_quote : goal.returns-in_default-after_quote
returns-in_default-after_quote c =
    let parts = c.in-Some.ensures in
    let some : 0 < length c.in-Some.back.now = omega (arith, false-eqb _ 0 (sym c.if-is_empty.false ∙ c.is_empty.ensures)) in
    inside-more _ c.in-Some.front.now c.in-Some.back.now c.loop-front.rest.now _ c.loop-front.invariant.same parts.found.0 parts.found.1 c.in_default-after_quote.ensures.none some

-- two quotes are one
pub loop-front-preserved : goal.loop-front-preserved
loop-front-preserved c =
    let parts = c.in-Some.ensures in
    let after = c.in-Some-after_quote in
    record {
      is_text = after.ensures.texts;
      same = inside-pair _ c.in-Some.front.now c.in-Some.back.now after.after.now c.loop-front.rest.now _ c.loop-front.invariant.same parts.found.0 parts.found.1 after.ensures.found
          ∙ ap (λ l. prefixed l (inside false after.after.now)) (sym (c.in_ok-push_str-2.ensures.bytes ∙ ap (λ l. l ++ 39 ∷ []) c.in_ok-push_str.ensures.bytes));
    }

-- no quote comes any more
pub returns : goal.returns
returns c = inside-open _ c.loop-front.rest.now _ c.loop-front.invariant.same c.in_default.ensures.none
