use Rattle.history_model.proofs.Working.{answer-works, up-history}
use Rattle.history_model.proofs.laws.disk_that_takes_all_never_fails.Goals as goal

pub returns-clause-answered : goal.returns-clause-answered
returns-clause-answered c = answer-works

pub returns-clause-up : goal.returns-clause-up
returns-clause-up c = up-history
