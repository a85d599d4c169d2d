use Rattle.std.proofs.lemmas.Result.{on_ok_weaker}
use Rattle.made_model.specs.MadeTexts.{erasure_texts}
use Rattle.made_script.proofs.AskMore.{more-both}
use Rattle.made_script.proofs.made.ask_erasure.Goals as goal

pub returns-clause-asks : goal.returns-clause-asks
unfolding erasure_texts
returns-clause-asks c =
    rw c.if-number-ne1.false (on_ok_weaker c.ask_erased.result (λ asked. more-both c.in_ok-ask_shown.ensures.asks asked) c.ask_erased.ensures.asks)
