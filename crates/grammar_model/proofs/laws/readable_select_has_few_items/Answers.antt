use Rattle.grammar_model.proofs.FewItems.{few_items}
use Rattle.grammar_model.proofs.laws.readable_select_has_few_items.Goals as goal

pub returns : goal.returns
returns c = few_items
