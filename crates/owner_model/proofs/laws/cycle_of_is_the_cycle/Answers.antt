use Rattle.owner_model.proofs.CycleLemmas.{cycle_of-cycle}
use Rattle.owner_model.proofs.laws.cycle_of_is_the_cycle.Goals as goal

pub returns : goal.returns
returns c = cycle_of-cycle
