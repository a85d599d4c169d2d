use Rattle.grammar_model.proofs.Requests.{answer_readable}
use Rattle.grammar_model.proofs.laws.answer_is_readable.Goals as goal

pub returns : goal.returns
returns c = answer_readable
