use Rattle.std.proofs.Common.{rules, append_assoc}
use Rattle.made_model.specs.MadeTexts.{taken_text}
use Rattle.made_script.proofs.texts.taken.Goals as goal

pub returns : goal.returns
unfolding taken_text
returns c = search (rules, append_assoc)
