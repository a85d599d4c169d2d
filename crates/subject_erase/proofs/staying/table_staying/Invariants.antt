use Rattle.std.proofs.Common.{◌≡◌, map}
use Rattle.std.specs.List.{range_with_len}
use Rattle.subject_erase.specs.Flags.{flag_at}
use Rattle.subject_erase.specs.Staying.{stays_by}
use Rattle.subject_erase.proofs.staying.table_staying.Given as goal

-- the rows before the place are gone through
abbrev pub invariant-loop-at : goal.invariant-loop-at
invariant-loop-at g l =
    l.staying ≡ map (λ place. stays_by (g.V.StoreView.db l.view).schema l.table.0 (flag_at l.owned l.table.0 place) (flag_at l.claimed l.table.0 place)) (range_with_len 0 l.at)
