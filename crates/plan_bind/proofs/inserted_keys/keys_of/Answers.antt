use Rattle.std.proofs.Common.{rules}
use Rattle.plan_bind.proofs.RisingKeys.{keys_more}
use Rattle.plan_bind.proofs.inserted_keys.keys_of.Goals as goal

pub loop-row-preserved : goal.loop-row-preserved
loop-row-preserved c = keys_more _ _ _ _ c.row-item.result _ _ _ c.in_ok-insert.ensures.keys (λ left right. search rules) c.loop-row-test.true c.row-item.is c.loop-row.invariant c.in_ok-key_of.ensures
