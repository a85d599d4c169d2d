use Rattle.owner_index.proofs.CreateLemmas.{none_stands}
use Rattle.owner_index.proofs.laws.no_entry_stands_for_no_rows.Goals as goal

pub returns : goal.returns
returns c = none_stands
