use Rattle.std.proofs.Common.{◌≡◌, true}
use Rattle.subject_model.proofs.LocalLemmas.{only_owns, only_reaches}
use Rattle.subject_model.proofs.laws.local_equation_has_one_solution.Goals as goal

pub returns : goal.returns
returns c = record { owns = λ db has. only_owns db (λ subject name. has subject name ≡ true); reaches = λ db has. only_reaches db (λ subject name. has subject name ≡ true) }
