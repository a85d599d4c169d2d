use Rattle.readable_model.proofs.Literals.{no_sums}
use Rattle.readable_model.proofs.laws.readable_insert_has_no_sums.Goals as goal

pub returns : goal.returns
returns c = no_sums
