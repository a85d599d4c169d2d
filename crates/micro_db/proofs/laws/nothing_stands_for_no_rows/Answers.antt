use Rattle.micro_db.proofs.CreateLemmas.{none-stands}
use Rattle.micro_db.proofs.laws.nothing_stands_for_no_rows.Goals as goal

pub returns : goal.returns
returns c = none-stands
