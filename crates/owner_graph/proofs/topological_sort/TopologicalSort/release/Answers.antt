use Rattle.owner_graph.proofs.TopologicalSortLemmas.{IsTopologicalSort-release, IsTopologicalSort-release_last}
use Rattle.owner_graph.proofs.topological_sort.TopologicalSort.release.Goals as goal

pub returns-in_ok-push-clause-sorting : goal.returns-in_ok-push-clause-sorting
returns-in_ok-push-clause-sorting c =
    let self = c.args.self.now in
    rw c.in_ok-push.ensures.items
    (IsTopologicalSort-release_last self.order.items self.waiting.items c.requires.sorting c.args.table c.index.result.now c.requires.waits c.index.ensures c.if-edges-eq0.true)

pub returns-else-edges-eq0-clause-sorting : goal.returns-else-edges-eq0-clause-sorting
returns-else-edges-eq0-clause-sorting c =
    let self = c.args.self.now in
    IsTopologicalSort-release self.order.items self.waiting.items c.requires.sorting c.args.table c.index.result.now c.requires.waits c.if-edges-eq0.false
