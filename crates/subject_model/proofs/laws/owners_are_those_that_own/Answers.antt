use Rattle.subject_model.proofs.OwnerLists.{owners-iff_Owns, owners_rise}
use Rattle.subject_model.proofs.laws.owners_are_those_that_own.Goals as goal

pub returns : goal.returns
returns c = record { members = owners-iff_Owns; in_order = owners_rise }
