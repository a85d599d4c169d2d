use Rattle.micro_db.proofs.AlikeLemmas.{stands-view}
use Rattle.micro_db.proofs.laws.it_stands_with_one_view_more.Goals as goal

pub returns : goal.returns
returns c = λ db view micro ordered owner. stands-view db ordered owner view micro
