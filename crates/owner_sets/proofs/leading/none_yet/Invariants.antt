use Rattle.std.proofs.Common.{◌≡◌, []}
use Rattle.std.specs.Prelude.{replicate}
use Rattle.owner_sets.proofs.leading.none_yet.Given as goal

-- so many rows have their lists
abbrev pub invariant-loop-row : goal.invariant-loop-row
invariant-loop-row l = l.lists.items ≡ replicate l._row []
