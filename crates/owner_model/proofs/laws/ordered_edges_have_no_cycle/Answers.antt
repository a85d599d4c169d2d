use Rattle.owner_model.proofs.OrderLemmas.{cycle_of-ordered, ordered_has_no_cycle}
use Rattle.owner_model.proofs.laws.ordered_edges_have_no_cycle.Goals as goal

pub returns-clause-untold : goal.returns-clause-untold
returns-clause-untold c = cycle_of-ordered

pub returns-clause-unclosed : goal.returns-clause-unclosed
returns-clause-unclosed c = ordered_has_no_cycle
