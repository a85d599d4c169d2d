use Rattle.std.proofs.Common.{take}
use Rattle.std.specs.List.{flat_map}
use Rattle.owner_sets.specs.Gathered.{HasMore, over_link}
use Rattle.owner_sets.proofs.gather.gather_edge.Given as goal

-- what comes down over the links so far is added
abbrev pub invariant-loop-link : goal.invariant-loop-link
invariant-loop-link g l =
    HasMore (λ place. flat_map (over_link (g.V.StoreView.db l.view).schema (g.V.StoreView.db l.view).rows l.done l.edge place) (take l.link-index l.link-items))
    l.initial.gathered.items l.gathered.items
