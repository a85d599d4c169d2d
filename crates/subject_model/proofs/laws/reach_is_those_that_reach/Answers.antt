use Rattle.subject_model.proofs.OwnerLists.{reach-iff_Reaches, reach_rise}
use Rattle.subject_model.proofs.laws.reach_is_those_that_reach.Goals as goal

pub returns : goal.returns
returns c = record { members = reach-iff_Reaches; in_order = reach_rise }
