use Rattle.crash_model.proofs.StoreLemmas.{one-store}
use Rattle.crash_model.proofs.laws.areas_hold_one_store.Goals as goal

pub returns : goal.returns
returns c = one-store
