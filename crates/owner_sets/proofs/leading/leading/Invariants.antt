use Rattle.std.proofs.Common.{take}
use Rattle.owner_sets.specs.Leading.{HasEdges, leading}
use Rattle.owner_sets.proofs.leading.leading.Given as goal

-- the edges so far are listed
abbrev pub invariant-loop-edge : goal.invariant-loop-edge
invariant-loop-edge g l =
    HasEdges (leading (g.V.StoreView.db l.view).schema (g.V.StoreView.db l.view).rows l.reach l.subject l.table.0 (take l.edge-index l.edge-items)) l.initial.lists.items l.lists.items
