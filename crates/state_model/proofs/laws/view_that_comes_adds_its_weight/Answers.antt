use Rattle.state_model.proofs.ViewSound.{fault-create_view, weight-create_view}
use Rattle.state_model.proofs.laws.view_that_comes_adds_its_weight.Goals as goal

pub returns : goal.returns
returns c = record { fault = fault-create_view; weight = weight-create_view }
