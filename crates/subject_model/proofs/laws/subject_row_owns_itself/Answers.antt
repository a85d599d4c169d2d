use Rattle.subject_model.proofs.FirstSubject.{owns_itself, reaches_itself}
use Rattle.subject_model.proofs.laws.subject_row_owns_itself.Goals as goal

pub returns : goal.returns
returns c = record { owns = owns_itself; reaches = reaches_itself }
