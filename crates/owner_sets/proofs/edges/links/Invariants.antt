use Rattle.std.proofs.Common.{◌≡◌}
use Rattle.std.specs.List.{flat_map, range_with_len}
use Rattle.std.specs.Option.{option_to_list}
use Rattle.owner_sets.specs.Links.{link_at}
use Rattle.owner_sets.proofs.edges.links.Given as goal

-- the rows before the place are gone through
abbrev pub invariant-loop-at : goal.invariant-loop-at
invariant-loop-at g l =
    l.found.items ≡ flat_map (λ place. option_to_list (link_at (g.V.StoreView.db l.view).schema (g.V.StoreView.db l.view).rows l.edge place)) (range_with_len 0 l.at)
