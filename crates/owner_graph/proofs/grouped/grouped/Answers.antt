use Rattle.std.proofs.Common.{◌<◌, arith, length}
use Rattle.owner_graph.proofs.EndsLemmas.{by_table-more, group_within}
use Rattle.owner_graph.proofs.grouped.grouped.Goals as goal

pub index_mut-requires : goal.index_mut-requires
index_mut-requires c =
    let within : c.table-table.result.0 < length c.loop-edge.groups.items =
    group_within c.args.end c.args.tables c.args.edges.now _ c.loop-edge.edge-index _ _ _ c.requires c.loop-edge-test.true c.loop-edge.invariant c.table-table.ensures in
    omega arith

pub loop-edge-preserved : goal.loop-edge-preserved
loop-edge-preserved c =
    by_table-more c.args.end c.args.tables c.args.edges.now c.loop-edge.edge-index _ _ _ _ _ _ c.requires c.loop-edge-test.true c.loop-edge.invariant c.table-table.ensures c.index_mut.ensures.value c.in_ok-copied.ensures c.in_ok-add.ensures.added
