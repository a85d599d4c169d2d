use Rattle.std.proofs.lemmas.Result.{on_ok_weaker}
use Rattle.made_script.proofs.AskMore.{more-both}
use Rattle.made_script.proofs.made.ask_schema.Goals as goal

pub returns-clause-asks : goal.returns-clause-asks
returns-clause-asks c =
    on_ok_weaker c.ask-3.result (λ asked. more-both (more-both c.in_ok-ask.ensures.asks c.in_ok-ask-2.ensures.asks) asked) c.ask-3.ensures.asks
