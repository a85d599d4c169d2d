use Rattle.history_model.proofs.RefusalLemmas.{refused-flat}
use Rattle.history_model.proofs.laws.refused_call_leaves_flat_database.Goals as goal

pub returns : goal.returns
returns c = refused-flat
