use Rattle.std.proofs.Common.{rules, append_assoc}
use Rattle.made_model.specs.MadeTexts.{given_text}
use Rattle.made_script.proofs.texts.given.Goals as goal

pub returns : goal.returns
unfolding given_text
returns c = search (rules, append_assoc)
