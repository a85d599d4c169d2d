use Rattle.micro_db.proofs.BareLemmas.{stands-bare}
use Rattle.micro_db.proofs.laws.it_stands_for_the_same_rows.Goals as goal

pub returns : goal.returns
returns c = stands-bare
