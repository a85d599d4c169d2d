use Rattle.std.proofs.Common.{take}
use Rattle.owner_graph.specs.WayBack.{leads_back}
use Rattle.owner_graph.proofs.WayBackLemmas.{IsLowest}
use Rattle.owner_graph.proofs.incoming.Incoming.way_back.Given as goal

abbrev pub invariant-loop-edge : goal.invariant-loop-edge
invariant-loop-edge l = IsLowest (leads_back l.table.0 l.leading.items) (take l.edge-index l.self.edges.now) l.lowest
