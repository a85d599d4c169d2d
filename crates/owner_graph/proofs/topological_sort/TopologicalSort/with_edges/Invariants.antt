use Rattle.std.proofs.Common.{◌≡◌, ◌-◌, length}
use Rattle.owner_graph.proofs.ReleasedLemmas.{Released}
use Rattle.owner_graph.proofs.topological_sort.TopologicalSort.with_edges.Given as goal

abbrev pub invariant-loop-released : goal.invariant-loop-released
invariant-loop-released l =
    Released l.incoming.edges.now l.sorting.order.items l.sorting.waiting.items l.released × (length l.sorting.waiting.items ≡ l.incoming.tables)

abbrev pub decreases-loop-released : goal.decreases-loop-released
decreases-loop-released l = l.incoming.tables - l.released
