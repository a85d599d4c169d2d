use Rattle.state_model.proofs.NetLeads.{net_leads, net_may, net_put}
use Rattle.state_model.proofs.laws.net_leads_from_the_one_to_the_other.Goals as goal

pub returns-clause-leads : goal.returns-clause-leads
returns-clause-leads c before after ordered_before ordered_after schema = net_leads before after ordered_before ordered_after schema

pub returns-clause-may : goal.returns-clause-may
returns-clause-may c before after ordered_before ordered_after schema = net_may before after ordered_before ordered_after schema

pub returns-clause-gives : goal.returns-clause-gives
returns-clause-gives c before after ordered_before ordered_after schema = net_put before after ordered_before ordered_after schema
