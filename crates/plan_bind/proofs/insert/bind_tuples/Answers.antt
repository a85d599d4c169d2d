use Rattle.std.proofs.Common.{take}
use Rattle.std.specs.List.{flat_map}
use Rattle.query_model.specs.WriteFaults.{tuple_faults}
use Rattle.plan_bind.proofs.Ranks.{kept_after}
use Rattle.plan_bind.proofs.insert.bind_tuples.Goals as goal

-- what is kept stays so after the faults of the tuples so far
pub bind_tuple-requires-clause-counted : goal.bind_tuple-requires-clause-counted
bind_tuple-requires-clause-counted c = λ many. rw c.loop-tuple.invariant.noted (kept_after 5 c.args.least.now
    (flat_map (tuple_faults c.args.targets.now.table c.args.targets.now.names) (take c.loop-tuple.tuple-index c.args.tuples.now)) (c.requires.counted many))
