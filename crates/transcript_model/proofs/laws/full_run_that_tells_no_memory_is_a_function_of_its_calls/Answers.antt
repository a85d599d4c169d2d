use Rattle.transcript_model.proofs.SparedLemmas.{transcript-full}
use Rattle.transcript_model.proofs.laws.full_run_that_tells_no_memory_is_a_function_of_its_calls.Goals as goal

pub returns : goal.returns
returns c = transcript-full
