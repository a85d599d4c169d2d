use Rattle.std.proofs.Common.{map, take}
use Rattle.shelf_access.specs.Gathered.{Gathers}
use Rattle.shelf_access.proofs.gathered.Gathered.add_run.Given as goal

-- those so far are there
abbrev pub invariant-loop-filed : goal.invariant-loop-filed
invariant-loop-filed l = Gathers (map (λ filed. filed.1) (take l.filed-index l.run)) l.fn.self l.self
