use Rattle.std.proofs.Common.{◌∙◌, arith}
use Rattle.owner_graph.proofs.GraphLemmas.{IsGraphOf-placed}
use Rattle.owner_graph.proofs.graph.Graph.with_edges.Goals as goal

pub returns-then-len-tables-clause-graph : goal.returns-then-len-tables-clause-graph
returns-then-len-tables-clause-graph c =
    let sorting = c.in_ok-sorting.sorting in
    let all = rw c.in_ok-incoming.ensures.edges at c.in_ok-sorting.ensures.all in
    rw (c.from_vec.ensures, c.from_vec-then-len-tables.ensures)
    (IsGraphOf-placed c.args.tables c.args.edges.now sorting.order.items sorting.waiting.items c.requires all
    (c.in_ok-sorting.ensures.tables ∙ c.in_ok-incoming.ensures.tables) (omega arith) c.in_ok-up.up.items c.in_ok-up.ensures)
