use Rattle.std.proofs.lemmas.Result.{on_ok_weaker}
use Rattle.made_script.proofs.AskMore.{more-asked}
use Rattle.made_script.proofs.asking.ask.Goals as goal

pub returns-clause-asks : goal.returns-clause-asks
returns-clause-asks c =
    on_ok_weaker c.put.result (λ put. more-asked c.args.calls.now.items _ c.args.text.now c.in_ok-request.request c.in_ok-request.ensures put) c.put.ensures
