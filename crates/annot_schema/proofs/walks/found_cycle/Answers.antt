use Rattle.std.proofs.Common.{sym}
use Rattle.owner_model.proofs.CycleLemmas.{cycle_of-cycle}
use Rattle.owner_model.proofs.OrderLemmas.{cycle_of-ordered}
use Rattle.annot_schema.proofs.walks.found_cycle.Goals as goal

-- tables in an order have no cycle
pub returns-in-Ok-clause-reported : goal.returns-in-Ok-clause-reported
returns-in-Ok-clause-reported c = sym (cycle_of-ordered c.args.tables c.args.edges.now c.in-Ok.graph.order c.in-Ok.ensures.graph.ordered)

-- the one that is reported is that of the edges
pub returns-in-Err-Cycle-clause-reported : goal.returns-in-Err-Cycle-clause-reported
returns-in-Err-Cycle-clause-reported c =
    let cycle = rw c.in-Err-Cycle.field-0-is at c.in-Err-Cycle.ensures.cycle in
    sym (cycle_of-cycle c.args.tables c.args.edges.now c.in-Err-Cycle.table.0 c.in-Err-Cycle.through.0 c.requires cycle)
