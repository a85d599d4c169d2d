use Rattle.state_model.proofs.NetOrder.{net_rises}
use Rattle.state_model.proofs.laws.names_of_a_net_rise.Goals as goal

pub returns : goal.returns
returns c = net_rises
