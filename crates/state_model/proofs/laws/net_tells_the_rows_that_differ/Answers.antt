use Rattle.state_model.proofs.NetRows.{net-iff_change}
use Rattle.state_model.proofs.laws.net_tells_the_rows_that_differ.Goals as goal

pub returns : goal.returns
returns c before after change ordered_before ordered_after schema = net-iff_change before after ordered_before ordered_after schema change
