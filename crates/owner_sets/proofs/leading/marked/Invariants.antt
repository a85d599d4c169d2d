use Rattle.std.proofs.Common.{take}
use Rattle.std.specs.List.{flat_map}
use Rattle.owner_sets.specs.Gathered.{over_link}
use Rattle.owner_sets.specs.Leading.{HasMarks, is_among}
use Rattle.owner_sets.proofs.leading.marked.Given as goal

-- the lower rows of the links so far are marked
abbrev pub invariant-loop-link : goal.invariant-loop-link
invariant-loop-link g l =
    HasMarks (λ place. is_among l.subject (flat_map (over_link (g.V.StoreView.db l.view).schema (g.V.StoreView.db l.view).rows l.reach l.edge place) (take l.link-index l.link-items)))
    l.initial.marks.items l.marks.items
