use Rattle.std.proofs.Common.{◌≡◌, take}
use Rattle.owner_graph.specs.Ends.{by_table}
use Rattle.owner_graph.proofs.grouped.grouped.Given as goal

abbrev pub invariant-loop-edge : goal.invariant-loop-edge
invariant-loop-edge l = l.groups.items ≡ by_table l.end l.tables (take l.edge-index l.edges)
