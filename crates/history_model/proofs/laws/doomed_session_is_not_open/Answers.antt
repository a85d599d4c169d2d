use Rattle.history_model.proofs.HolderLemmas.{doomed-after, doomed-not_busy, doomed-told}
use Rattle.history_model.proofs.laws.doomed_session_is_not_open.Goals as goal

pub returns : goal.returns
returns c = record { busy = doomed-not_busy; told = doomed-told; after = doomed-after }
