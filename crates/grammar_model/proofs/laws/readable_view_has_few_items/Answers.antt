use Rattle.grammar_model.proofs.FewItems.{few_view_items}
use Rattle.grammar_model.proofs.laws.readable_view_has_few_items.Goals as goal

pub returns : goal.returns
returns c = few_view_items
