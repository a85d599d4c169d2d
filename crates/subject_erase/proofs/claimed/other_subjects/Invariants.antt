use Rattle.std.proofs.Common.{◌≡◌, false, map}
use Rattle.std.specs.Prelude.{slice_index_or}
use Rattle.std.specs.List.{range_with_len}
use Rattle.subject_erase.specs.Staying.{is_other_subject}
use Rattle.subject_erase.proofs.claimed.other_subjects.Given as goal

-- the rows before the place are gone through
abbrev pub invariant-loop-at : goal.invariant-loop-at
invariant-loop-at g l =
    l.marks.items ≡ map (λ place. is_other_subject (g.V.StoreView.db l.view).schema l.fn.table.0 (slice_index_or l.owned place false)) (range_with_len 0 l.at)
