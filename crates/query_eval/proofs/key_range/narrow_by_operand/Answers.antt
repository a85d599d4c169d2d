use Rattle.query_eval.proofs.key_range.narrow_by_operand.Goals as goal

-- The right side is the literal.
pub returns-in-Literal : goal.returns-in-Literal
returns-in-Literal g c = rw c.in-Literal.is c.narrow.ensures
