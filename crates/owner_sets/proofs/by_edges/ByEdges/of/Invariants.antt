use Rattle.owner_sets.proofs.MarkLemmas.{EdgesTo}
use Rattle.owner_sets.proofs.by_edges.ByEdges.of.Given as goal

-- the tables so far have their edges
abbrev pub invariant-loop-number : goal.invariant-loop-number
invariant-loop-number g l = EdgesTo (g.V.StoreView.db l.view) l.subject.0 l.number l.edges
