use Rattle.state_model.proofs.FaultlessRows.{sound-iff_consistent}
use Rattle.state_model.proofs.laws.consistent_database_is_sound.Goals as goal

pub returns : goal.returns
returns c = sound-iff_consistent
