use Rattle.state_model.proofs.CreatedLemmas.{created-empty}
use Rattle.state_model.proofs.WellFormedLemmas.{sound-empty}
use Rattle.state_model.proofs.laws.empty_database_is_sound.Goals as goal

pub returns : goal.returns
returns c = record { created = created-empty; sound = sound-empty }
