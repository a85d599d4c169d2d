use Rattle.move_model.proofs.MoveLemmas.{one_list}
use Rattle.move_model.proofs.laws.moves_are_determined.Goals as goal

pub returns : goal.returns
returns c = one_list
