use Rattle.owner_index.proofs.CreateLemmas.{stands-view}
use Rattle.owner_index.proofs.laws.index_stands_with_one_view_more.Goals as goal

pub returns : goal.returns
returns c = stands-view
