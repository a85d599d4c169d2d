use Rattle.grammar_model.proofs.FewValues.{few_values}
use Rattle.grammar_model.proofs.laws.readable_insert_has_few_values.Goals as goal

pub returns : goal.returns
returns c = few_values
