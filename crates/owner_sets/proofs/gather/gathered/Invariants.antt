use Rattle.std.proofs.Common.{take}
use Rattle.std.specs.List.{flat_map}
use Rattle.owner_sets.specs.Gathered.{HasMore, over_counted}
use Rattle.owner_sets.proofs.gather.gathered.Given as goal

-- what comes down over the edges so far is added
abbrev pub invariant-loop-edge : goal.invariant-loop-edge
invariant-loop-edge g l =
    HasMore (λ place. flat_map (over_counted l.which (g.V.StoreView.db l.view).schema (g.V.StoreView.db l.view).rows l.done place) (take l.edge-index l.edges))
    l.initial.lists.items l.lists.items
