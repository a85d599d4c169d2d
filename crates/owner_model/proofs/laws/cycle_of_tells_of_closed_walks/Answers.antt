use Rattle.owner_model.proofs.ToldCycle.{told_is_cycle, untold_iff_acyclic}
use Rattle.owner_model.proofs.laws.cycle_of_tells_of_closed_walks.Goals as goal

pub returns-clause-told : goal.returns-clause-told
returns-clause-told c tables edges told within = told_is_cycle tables edges within told

pub returns-clause-untold : goal.returns-clause-untold
returns-clause-untold c = untold_iff_acyclic
