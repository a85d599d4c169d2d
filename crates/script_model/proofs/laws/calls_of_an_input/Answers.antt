use Rattle.script_model.proofs.InputCalls.{calls-few, calls-sessions, calls-numbered, calls-readable}
use Rattle.script_model.proofs.TextBytes.{calls-bytes}
use Rattle.script_model.proofs.laws.calls_of_an_input.Goals as goal

pub returns-clause-few : goal.returns-clause-few
returns-clause-few c = calls-few

pub returns-clause-sessions : goal.returns-clause-sessions
returns-clause-sessions c = calls-sessions

pub returns-clause-numbered : goal.returns-clause-numbered
returns-clause-numbered c = calls-numbered

pub returns-clause-readable : goal.returns-clause-readable
returns-clause-readable c = calls-readable

pub returns-clause-bytes : goal.returns-clause-bytes
returns-clause-bytes c = calls-bytes
