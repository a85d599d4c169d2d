use Rattle.subject_model.proofs.JoinsLemmas.{steps-iff_joined}
use Rattle.subject_model.proofs.laws.steps_are_what_edges_join.Goals as goal

pub returns : goal.returns
returns c = steps-iff_joined
