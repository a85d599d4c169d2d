use Rattle.store_words.proofs.InRange.{mode_in_range}
use Rattle.store_words.proofs.laws.numbers_of_make_are_in_range.Goals as goal

pub returns-clause-people : goal.returns-clause-people
returns-clause-people c = λ words people seed is. (mode_in_range words people seed is).0

pub returns-clause-seed : goal.returns-clause-seed
returns-clause-seed c = λ words people seed is. (mode_in_range words people seed is).1
