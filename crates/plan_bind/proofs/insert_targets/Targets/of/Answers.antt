use Rattle.plan_bind.proofs.LongLists.{counted_after}
use Rattle.plan_bind.proofs.insert_targets.Targets.of.Goals as goal

-- the faults of the list are noted
pub returns-clause-counted : goal.returns-clause-counted
returns-clause-counted c = λ many. rw c.in_ok-columns.ensures.noted (counted_after c.args.table.now c.args.names.now c.args.least.now c.requires many)
