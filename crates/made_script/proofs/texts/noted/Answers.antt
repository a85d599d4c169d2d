use Rattle.std.proofs.Common.{rules, append_assoc}
use Rattle.made_model.specs.MadeTexts.{noted_text}
use Rattle.made_script.proofs.texts.noted.Goals as goal

pub returns : goal.returns
unfolding noted_text
returns c = search (rules, append_assoc)
