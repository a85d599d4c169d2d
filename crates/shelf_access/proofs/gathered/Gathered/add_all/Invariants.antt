use Rattle.std.proofs.Common.{map, take}
use Rattle.shelf_access.specs.Gathered.{Gathers}
use Rattle.shelf_access.proofs.gathered.Gathered.add_all.Given as goal

-- those so far are there
abbrev pub invariant-loop-copy : goal.invariant-loop-copy
invariant-loop-copy l = Gathers (map (λ copy. copy) (take l.copy-index l.copies)) l.fn.self l.self
