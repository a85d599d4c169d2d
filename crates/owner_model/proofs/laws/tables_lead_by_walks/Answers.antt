use Rattle.owner_model.proofs.LeadsLemmas.{leads-iff_walk}
use Rattle.owner_model.proofs.laws.tables_lead_by_walks.Goals as goal

pub returns : goal.returns
returns c = leads-iff_walk
