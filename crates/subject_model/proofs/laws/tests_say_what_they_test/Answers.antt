use Rattle.subject_model.proofs.OwnerLemmas.{by-iff_By, owns-iff_Owns, reaches-iff_Reaches}
use Rattle.subject_model.proofs.laws.tests_say_what_they_test.Goals as goal

pub returns : goal.returns
returns c = record { owns = owns-iff_Owns; reaches = reaches-iff_Reaches; by = by-iff_By }
