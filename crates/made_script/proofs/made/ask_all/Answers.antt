use Rattle.std.proofs.lemmas.Result.{on_ok_weaker}
use Rattle.made_script.proofs.AskMore.{made}
use Rattle.made_script.proofs.made.ask_all.Goals as goal

pub returns : goal.returns
returns c =
    on_ok_weaker c.put.result
    (λ put. made c.args.people c.args.seed c.from_seed-draws.result.seed c.ask_notes.new.draws.seed c.requires.none c.from_seed-draws.ensures.seed c.in_ok-ask_notes.ensures.seed
    c.in_ok-ask_schema.ensures.asks c.in_ok-ask_users.ensures.asks c.in_ok-ask_notes.ensures.asks c.in_ok-ask_transfers.ensures.asks c.in_ok-ask_erasures.ensures.asks c.in_ok-ask.ensures.asks put)
    c.put.ensures
