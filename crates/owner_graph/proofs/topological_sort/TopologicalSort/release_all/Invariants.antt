use Rattle.std.proofs.Common.{take}
use Rattle.owner_graph.specs.TopologicalSort.{GoesOn, IsTopologicalSort, WaitsForLess}
use Rattle.owner_graph.proofs.topological_sort.TopologicalSort.release_all.Given as goal

abbrev pub invariant-loop-edge : goal.invariant-loop-edge
invariant-loop-edge l =
    IsTopologicalSort l.self.order.items l.self.waiting.items
    × GoesOn l.initial.self.order.items l.self.order.items
    × WaitsForLess (take l.edge-index l.edges) l.initial.self.waiting.items l.self.waiting.items
