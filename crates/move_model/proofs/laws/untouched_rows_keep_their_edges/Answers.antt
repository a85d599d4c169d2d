use Rattle.move_model.proofs.Untouched.{untouched_keeps}
use Rattle.move_model.proofs.laws.untouched_rows_keep_their_edges.Goals as goal

pub returns : goal.returns
returns c = λ before after changes name schema lead none. untouched_keeps before after changes schema lead name (record { none = none })
