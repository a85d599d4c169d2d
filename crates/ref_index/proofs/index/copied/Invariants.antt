use Rattle.std.proofs.Common.{◌≡◌, take}
use Rattle.ref_index.proofs.index.copied.Given as goal

-- those so far
abbrev pub invariant-loop-column : goal.invariant-loop-column
invariant-loop-column l = l.copy.items ≡ take l.column-index l.columns
