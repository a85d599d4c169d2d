use Rattle.readable_model.proofs.Within.{statement_within, view_within}
use Rattle.readable_model.proofs.laws.readable_statement_is_within_limits.Goals as goal

pub returns-clause-statement : goal.returns-clause-statement
returns-clause-statement c = statement_within

pub returns-clause-view : goal.returns-clause-view
returns-clause-view c = view_within
