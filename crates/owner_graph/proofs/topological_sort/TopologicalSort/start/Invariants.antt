use Rattle.std.proofs.Common.{◌≡◌, length, map, take}
use Rattle.owner_graph.specs.TopologicalSort.{IsTopologicalSort}
use Rattle.owner_graph.proofs.topological_sort.TopologicalSort.start.Given as goal

abbrev pub invariant-loop-table : goal.invariant-loop-table
invariant-loop-table l = IsTopologicalSort l.sorting.order.items l.sorting.waiting.items × (l.sorting.waiting.items ≡ map length (take l.table l.up))
