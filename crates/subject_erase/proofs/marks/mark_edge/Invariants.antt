use Rattle.std.proofs.Common.{take}
use Rattle.std.specs.List.{list_any}
use Rattle.subject_erase.specs.Marked.{HaveMore, over_link}
use Rattle.subject_erase.proofs.marks.mark_edge.Given as goal

-- the rows of the links so far are marked
abbrev pub invariant-loop-link : goal.invariant-loop-link
invariant-loop-link g l = HaveMore (λ place. list_any (over_link l.upper place) (take l.link-index l.link-items)) l.initial.marks.items l.marks.items
