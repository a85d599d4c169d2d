use Rattle.std.proofs.Common.{◌≡◌, ◌&&◌, false, map, not}
use Rattle.std.specs.Prelude.{slice_index_or}
use Rattle.std.specs.List.{range_with_len}
use Rattle.subject_erase.proofs.claimed.unflagged.Given as goal

-- the places before this one are gone through
abbrev pub invariant-loop-at : goal.invariant-loop-at
invariant-loop-at l =
    l.left ≡ map (λ place. slice_index_or l.marks place false && not (slice_index_or l.flags place false)) (range_with_len 0 l.at)
