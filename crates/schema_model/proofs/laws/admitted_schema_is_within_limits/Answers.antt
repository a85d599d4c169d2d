use Rattle.schema_model.proofs.LimitLemmas.{within_limits-with_table}
use Rattle.schema_model.proofs.laws.admitted_schema_is_within_limits.Goals as goal

pub returns : goal.returns
returns c = within_limits-with_table
