use Rattle.std.proofs.Common.{subst}
use Rattle.grammar_model.specs.Readable.{IsReadable}
use Rattle.readable_model.proofs.Within.{statement_within}
use Rattle.session_run.proofs.learning.bound_ahead.Goals as goal

-- a statement that a text can give may be bound
pub bind-requires-clause-statement : goal.bind-requires-clause-statement
bind-requires-clause-statement c = statement_within c.get-2.result.now (rw c.get-2.ensures (subst IsReadable c.in-Run.is c.requires.readable))
