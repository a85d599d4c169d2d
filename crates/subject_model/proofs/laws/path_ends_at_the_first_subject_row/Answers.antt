use Rattle.subject_model.proofs.FirstSubject.{path-iff_first}
use Rattle.subject_model.proofs.laws.path_ends_at_the_first_subject_row.Goals as goal

pub returns : goal.returns
returns c = path-iff_first
