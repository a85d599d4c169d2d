use Rattle.owner_graph.proofs.TopologicalSortLemmas.{IsTopologicalSort-add_placed, IsTopologicalSort-add_waiting}
use Rattle.owner_graph.proofs.topological_sort.TopologicalSort.add.Goals as goal
use Rattle.owner_graph.proofs.topological_sort.TopologicalSort.add.Goals.{then-edges-eq0+in_ok-push, else-edges-eq0}

pub returns-clause-sorting : goal.returns-clause-sorting
returns-clause-sorting c =
    let self = c.args.self.now in
    elim c.if-edges-eq0.branch [
      | then-edges-eq0+in_ok-push w ↦
          rw (c.in_ok-push-2.ensures.items, w.self-is, w.in_ok-push.ensures.items, w.if-edges-eq0.true)
          (IsTopologicalSort-add_placed self.order.items self.waiting.items c.requires.sorting c.args.table c.requires.next)
      | else-edges-eq0 w ↦
          rw (c.in_ok-push-2.ensures.items, w.self-is) (IsTopologicalSort-add_waiting self.order.items self.waiting.items c.requires.sorting c.args.edges w.if-edges-eq0.false)
    ]
