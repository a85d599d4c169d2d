use Rattle.made_model.proofs.LargeCalls.{large-few, large-sessions, large-numbered, large-readable}
use Rattle.made_model.proofs.laws.calls_of_a_large_script.Goals as goal

pub returns-clause-few : goal.returns-clause-few
returns-clause-few c = large-few

pub returns-clause-sessions : goal.returns-clause-sessions
returns-clause-sessions c = large-sessions

pub returns-clause-numbered : goal.returns-clause-numbered
returns-clause-numbered c = large-numbered

pub returns-clause-readable : goal.returns-clause-readable
returns-clause-readable c = large-readable
