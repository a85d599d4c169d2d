use Rattle.std.proofs.Common.{arith}
use Rattle.sql_lex.proofs.Quotes.{DoubledTo-byte, DoubledTo-quotes, Closes-at, not_closed}
use Rattle.sql_lex.proofs.quoted.closed_len.Goals as goal
use Rattle.sql_lex.proofs.quoted.closed_len.Goals.{else-at-bytes-via-then-at-bytes+else-bytes-at-eq-QUOTE, else-at-bytes-via-else-at-bytes}

pub loop-at-preserved-then-bytes-at-ne-QUOTE : goal.loop-at-preserved-then-bytes-at-ne-QUOTE
loop-at-preserved-then-bytes-at-ne-QUOTE c =
    record { within = omega arith; doubled = DoubledTo-byte c.args.bytes.now c.loop-at.at c.loop-at-test.true c.if-bytes-at-ne-QUOTE.true c.loop-at.invariant.doubled }

pub loop-at-preserved : goal.loop-at-preserved
loop-at-preserved c =
    record { within = omega arith; doubled = DoubledTo-quotes c.args.bytes.now c.loop-at.at c.if-at-bytes.true c.if-bytes-at-ne-QUOTE.false c.if-bytes-at-eq-QUOTE.true c.loop-at.invariant.doubled }

pub returns-else-at-bytes-clause-found : goal.returns-else-at-bytes-clause-found
returns-else-at-bytes-clause-found c =
    Closes-at c.args.bytes.now c.loop-at.at c.loop-at-test.true c.if-bytes-at-ne-QUOTE.false
    (λ more. elim c.else-at-bytes.branch [
      | else-at-bytes-via-then-at-bytes+else-bytes-at-eq-QUOTE w ↦ w.if-bytes-at-eq-QUOTE.false
      | else-at-bytes-via-else-at-bytes w ↦ absurd (omega arith)
    ])
    c.loop-at.invariant.doubled

pub returns-clause-none : goal.returns-clause-none
returns-clause-none c = λ len closed. not_closed c.args.bytes.now c.loop-at.at len c.loop-at-test.false c.loop-at.invariant.doubled closed
