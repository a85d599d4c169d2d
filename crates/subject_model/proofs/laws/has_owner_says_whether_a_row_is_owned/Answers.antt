use Rattle.subject_model.proofs.OwnerLemmas.{has_owner-iff_owned}
use Rattle.subject_model.proofs.laws.has_owner_says_whether_a_row_is_owned.Goals as goal

pub returns : goal.returns
returns c = has_owner-iff_owned
