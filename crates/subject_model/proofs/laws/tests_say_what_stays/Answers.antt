use Rattle.subject_model.proofs.StayLemmas.{stays-iff_Stays, struck-iff_Struck}
use Rattle.subject_model.proofs.laws.tests_say_what_stays.Goals as goal

pub returns : goal.returns
returns c = record { struck = struck-iff_Struck; stays = stays-iff_Stays }
