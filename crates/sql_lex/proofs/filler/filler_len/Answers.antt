use Rattle.std.proofs.Common.{arith, sym, ◌∙◌, false-eqb}
use Rattle.sql_lex.proofs.Fillers.{comment_at_front, space_at_front, range_from_is}
use Rattle.sql_lex.proofs.filler.filler_len.Goals as goal

pub returns-then-starts_with-clause-some : goal.returns-then-starts_with-clause-some
returns-then-starts_with-clause-some c =
    λ _. comment_at_front c.args.bytes.now _ c.line_len.result (sym c.starts_with.ensures.value ∙ c.if-starts_with.true) (range_from_is 2 _) c.line_len.ensures.line c.line_len.ensures.ends

pub returns-then-is_space-clause-some : goal.returns-then-is_space-clause-some
returns-then-is_space-clause-some c =
    λ _. space_at_front c.args.bytes.now (omega (arith, false-eqb _ 0 (sym c.if-not-is_empty.true ∙ c.is_empty.ensures))) (sym c.is_space.ensures ∙ c.if-is_space.true)
