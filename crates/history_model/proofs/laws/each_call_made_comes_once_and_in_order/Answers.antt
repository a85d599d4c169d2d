use Rattle.history_model.proofs.NamedLemmas.{named-made}
use Rattle.history_model.proofs.laws.each_call_made_comes_once_and_in_order.Goals as goal

pub returns : goal.returns
returns c = named-made
