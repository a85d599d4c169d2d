use Rattle.std.proofs.Common.{take}
use Rattle.std.specs.List.{list_any}
use Rattle.subject_erase.specs.Marked.{HaveMore, over_followed}
use Rattle.subject_erase.proofs.marks.mark.Given as goal

-- the rows that the edges so far join to a flagged one are marked
abbrev pub invariant-loop-edge : goal.invariant-loop-edge
invariant-loop-edge g l =
    HaveMore (λ place. list_any (over_followed l.followed (g.V.StoreView.db l.view).schema (g.V.StoreView.db l.view).rows l.flags place) (take l.edge-index l.edges)) l.initial.marks.items l.marks.items
