use Rattle.subject_model.proofs.LocalLemmas.{owns_meets, reaches_meets}
use Rattle.subject_model.proofs.laws.owners_meet_the_local_equation.Goals as goal

pub returns : goal.returns
returns c = record { owns = owns_meets; reaches = reaches_meets }
