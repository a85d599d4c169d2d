use Rattle.std.proofs.Common.{◌≡◌, map, take}
use Rattle.engine_core.proofs.subjects.names_of.Given as goal

-- the names of the changes so far
abbrev pub invariant-loop-change : goal.invariant-loop-change
invariant-loop-change l = l.names.items ≡ map (λ change. change.name) (take l.change-index l.changes)
