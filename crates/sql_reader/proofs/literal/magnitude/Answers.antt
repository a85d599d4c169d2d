use Rattle.std.proofs.Common.{◌≡◌, ◌+◌, ◌-◌, ◌*◌, get_or, drop, suc, ap, ◌∙◌, arith, drop-cons}
use Rattle.grammar_model.specs.Values.{digits_after}
use Rattle.sql_reader.proofs.Literals.{digits_after-grows}
use Rattle.sql_reader.proofs.literal.magnitude.Goals as goal

-- the other digits make it no less
pub returns-then-number : goal.returns-then-number
returns-then-number c =
    let i = c.loop-digit.digit-index in
    let digits = c.args.digits.now in
    let more = 10 * c.loop-digit.number + (get_or digits i 0 - 48) in
    let all : digits_after 0 digits ≡ digits_after more (drop (suc i) digits) = c.loop-digit.invariant.same ∙ ap (digits_after c.loop-digit.number) (drop-cons digits i 0 c.loop-digit-test.true) in
    omega (arith, all, digits_after-grows more (drop (suc i) digits), c.if-number.true, c.from.ensures, c.saturating_sub.ensures)
