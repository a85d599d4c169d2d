use Rattle.history_model.proofs.DoomTold.{told-doomed}
use Rattle.history_model.proofs.laws.doom_is_told_to_the_doomed.Goals as goal

pub returns : goal.returns
returns c = told-doomed
