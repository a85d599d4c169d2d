use Rattle.state_model.proofs.PutLeads.{put_leads}
use Rattle.state_model.proofs.laws.changes_give_the_rows_to_which_they_lead.Goals as goal

pub returns : goal.returns
returns c before after changes ordered_before ordered_after schema lead = put_leads before after schema changes ordered_before ordered_after lead
