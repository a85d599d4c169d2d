use Rattle.micro_db.proofs.AlikeLemmas.{stands-create}
use Rattle.micro_db.proofs.laws.it_stands_with_one_table_more.Goals as goal

pub returns : goal.returns
returns c = λ db table micro ordered owner also. stands-create db ordered owner table micro also
