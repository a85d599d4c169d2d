use Rattle.grammar_model.proofs.TextBytes.{answer-within}
use Rattle.grammar_model.proofs.laws.answer_is_within_its_text.Goals as goal

pub returns : goal.returns
returns c = answer-within
