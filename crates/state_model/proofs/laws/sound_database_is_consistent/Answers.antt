use Rattle.state_model.proofs.Consistency.{consistent_from_sound}
use Rattle.state_model.proofs.laws.sound_database_is_consistent.Goals as goal

pub returns : goal.returns
returns c = consistent_from_sound
