use Rattle.owner_graph.proofs.PlacedLemmas.{GoesOn-refl, GoesOn-trans}
use Rattle.owner_graph.proofs.WaitingLemmas.{WaitsForLess-more, WaitsForLess-nil, still_waits}
use Rattle.owner_graph.proofs.topological_sort.TopologicalSort.release_all.Goals as goal

pub release-requires-clause-waits : goal.release-requires-clause-waits
release-requires-clause-waits c = still_waits c.args.edges.now c.loop-edge.edge-index _ _ _ c.loop-edge-test.true c.loop-edge.invariant.2 c.requires.wait

pub loop-edge-init : goal.loop-edge-init
loop-edge-init c = (c.requires.sorting, GoesOn-refl _, WaitsForLess-nil _)

pub loop-edge-preserved : goal.loop-edge-preserved
loop-edge-preserved c = (
  c.in_ok-release.ensures.sorting,
  GoesOn-trans _ _ _ c.loop-edge.invariant.1 c.in_ok-release.ensures.longer,
  WaitsForLess-more c.args.edges.now c.loop-edge.edge-index _ _ _ c.loop-edge-test.true c.loop-edge.invariant.2 _
      (still_waits c.args.edges.now c.loop-edge.edge-index _ _ _ c.loop-edge-test.true c.loop-edge.invariant.2 c.requires.wait)
      c.in_ok-release.ensures.less,
)
