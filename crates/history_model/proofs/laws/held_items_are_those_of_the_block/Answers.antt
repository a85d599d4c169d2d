use Rattle.history_model.proofs.HolderLemmas.{held-doomed, held-inside, held-outside}
use Rattle.history_model.proofs.laws.held_items_are_those_of_the_block.Goals as goal

pub returns : goal.returns
returns c = record { inside = held-inside; outside = held-outside; doomed = held-doomed }
