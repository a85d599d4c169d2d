use Rattle.grammar_model.proofs.FewParts.{few_parts}
use Rattle.grammar_model.proofs.laws.readable_create_has_few_parts.Goals as goal

pub returns : goal.returns
returns c = few_parts
