use Rattle.schema_model.proofs.LimitLemmas.{within_limits-empty}
use Rattle.schema_model.proofs.laws.schema_without_tables_is_within_limits.Goals as goal

pub returns : goal.returns
returns c = within_limits-empty
