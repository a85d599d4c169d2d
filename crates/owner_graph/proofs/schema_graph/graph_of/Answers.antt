use Rattle.owner_graph.proofs.GraphThere.{edges-within, no_cycle}
use Rattle.owner_graph.proofs.schema_graph.graph_of.Goals as goal

pub with_edges-requires : goal.with_edges-requires
with_edges-requires c = rw (c.items.ensures, c.items-2.ensures) (edges-within c.args.schema.now c.requires.owner)

pub unreachable-requires : goal.unreachable-requires
unreachable-requires c =
    let cycle = rw (c.in-Err-Cycle.field-0-is, c.items-2.ensures) at c.in-Err-Cycle.ensures.cycle in
    no_cycle c.args.schema.now c.in-Err-Cycle.field-0-0.0 c.in-Err-Cycle.field-0-1.0 c.requires.owner cycle
