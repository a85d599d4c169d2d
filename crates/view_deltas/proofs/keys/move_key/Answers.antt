use Rattle.std.proofs.lemmas.Result.{on_ok_weaker}
use Rattle.view_deltas.proofs.KeyLemmas.{key_moved}
use Rattle.view_deltas.proofs.keys.move_key.Goals as goal

-- The one pair has gone, and the other come.
pub returns : goal.returns
returns c =
    on_ok_weaker c.put_key.result
    (λ put. key_moved c.args.column.0 c.args.change.now.name.key c.args.change.now.before c.args.change.now.after c.in_ok-before.before c.in_ok-after.after c.args.pairs.now c.take_key.new.pairs c.put_key.new.pairs c.in_ok-before.ensures c.in_ok-after.ensures c.in_ok-take_key.ensures put)
    c.put_key.ensures
