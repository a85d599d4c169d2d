use Rattle.crash_model.proofs.LeftLemmas.{left-more, left-now}
use Rattle.crash_model.proofs.laws.what_is_left_of_a_history_stays_so.Goals as goal

pub returns : goal.returns
returns c = record { now = left-now; later = left-more }
