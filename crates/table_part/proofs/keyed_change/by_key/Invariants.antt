use Rattle.std.proofs.Common.{◌≡◌, map, take}
use Rattle.table_part.specs.Lent.{lent}
use Rattle.table_part.proofs.keyed_change.by_key.Given as goal

abbrev pub invariant-loop-change : goal.invariant-loop-change
invariant-loop-change l = map lent l.keyed.items ≡ take l.change-index l.changes
