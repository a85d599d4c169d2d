use Rattle.state_model.proofs.TableSound.{sound-create, weighs-create}
use Rattle.state_model.proofs.laws.table_that_comes_breaks_nothing.Goals as goal

pub returns : goal.returns
returns c = record { sound = sound-create; weight = weighs-create }
