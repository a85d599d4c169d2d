use Rattle.subject_model.proofs.PathLemmas.{listed_is_path, path_ends, path_is_listed}
use Rattle.subject_model.proofs.laws.paths_are_all_the_paths.Goals as goal

pub returns : goal.returns
returns c = record { each = path_is_listed; no_other = listed_is_path; one_end = path_ends }
