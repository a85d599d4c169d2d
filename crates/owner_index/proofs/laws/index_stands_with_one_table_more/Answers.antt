use Rattle.owner_index.proofs.CreateLemmas.{stands-create}
use Rattle.owner_index.proofs.laws.index_stands_with_one_table_more.Goals as goal

pub returns : goal.returns
returns c = stands-create
