use Rattle.crash_model.proofs.AloneLemmas.{alone-equal}
use Rattle.crash_model.proofs.laws.areas_with_a_database_alone_are_equal.Goals as goal

pub returns : goal.returns
returns c = alone-equal
