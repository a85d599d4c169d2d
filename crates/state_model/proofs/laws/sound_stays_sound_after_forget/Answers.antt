use Rattle.state_model.proofs.ForgetSound.{sound-forget}
use Rattle.state_model.proofs.laws.sound_stays_sound_after_forget.Goals as goal

pub returns : goal.returns
returns c = sound-forget
