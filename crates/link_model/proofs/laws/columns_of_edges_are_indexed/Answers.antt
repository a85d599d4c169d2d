use Rattle.link_model.proofs.EdgeColumns.{edges_indexed}
use Rattle.link_model.proofs.laws.columns_of_edges_are_indexed.Goals as goal

pub returns : goal.returns
returns c = edges_indexed
