use Rattle.transcript_model.proofs.SparedLemmas.{run-spared}
use Rattle.transcript_model.proofs.laws.spared_run_is_a_function_of_its_calls.Goals as goal

pub returns : goal.returns
returns c = run-spared
