use Rattle.std.proofs.Common.{arith, sym, ◌∙◌}
use Rattle.sql_lex.proofs.Marks.{two-scans, one-scans, no-mark}
use Rattle.sql_lex.proofs.scan.mark_len.Goals as goal
use Rattle.sql_lex.proofs.scan.mark_len.Goals.{else-bytes-ge2-via-then-bytes-ge2+else-is_mark, else-bytes-ge2-via-else-bytes-ge2}
use Rattle.sql_lex.proofs.scan.mark_len.Goals.{else-bytes-ge1-via-then-bytes-ge1+else-is_mark-2, else-bytes-ge1-via-else-bytes-ge1}

pub returns-then-is_mark-clause-found : goal.returns-then-is_mark-clause-found
returns-then-is_mark-clause-found c = two-scans c.args.bytes.now c.if-bytes-ge2.true (sym c.is_mark.ensures ∙ c.if-is_mark.true)

pub returns-then-is_mark-2-clause-found : goal.returns-then-is_mark-2-clause-found
returns-then-is_mark-2-clause-found c =
    one-scans c.args.bytes.now c.if-bytes-ge1.true
    (λ long. elim c.else-bytes-ge2.branch [
      | else-bytes-ge2-via-then-bytes-ge2+else-is_mark w ↦ sym w.is_mark.ensures ∙ w.if-is_mark.false
      | else-bytes-ge2-via-else-bytes-ge2 w ↦ absurd (omega arith)
    ])
    (sym c.is_mark-then-bytes-ge1.ensures ∙ c.if-is_mark-2.true)

pub returns-else-bytes-ge1-clause-none : goal.returns-else-bytes-ge1-clause-none
returns-else-bytes-ge1-clause-none c = λ token after.
    no-mark c.args.bytes.now token after
    (λ long. elim c.else-bytes-ge2.branch [
      | else-bytes-ge2-via-then-bytes-ge2+else-is_mark w ↦ sym w.is_mark.ensures ∙ w.if-is_mark.false
      | else-bytes-ge2-via-else-bytes-ge2 w ↦ absurd (omega arith)
    ])
    (λ long. elim c.else-bytes-ge1.branch [
      | else-bytes-ge1-via-then-bytes-ge1+else-is_mark-2 w ↦ sym w.is_mark-then-bytes-ge1.ensures ∙ w.if-is_mark-2.false
      | else-bytes-ge1-via-else-bytes-ge1 w ↦ absurd (omega arith)
    ])
