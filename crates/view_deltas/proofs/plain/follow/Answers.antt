use Rattle.std.proofs.lemmas.Result.{on_ok_weaker}
use Rattle.view_deltas.proofs.PlainLemmas.{plain_follows}
use Rattle.view_deltas.proofs.plain.follow.Goals as goal

pub returns : goal.returns
returns c = on_ok_weaker c.put.result (λ put table. plain_follows table c.args.query.now c.args.change.now.name.key c.args.change.now.before c.args.change.now.after c.args.entries.now c.put.new.self c.in_ok-key.key c.in_ok-shown.shown c.in_ok-key.ensures c.in_ok-shown.ensures put) c.put.ensures
