use Rattle.std.proofs.Common.{◌≡◌, map, take}
use Rattle.plan_bind.specs.InsertTargets.{value_at}
use Rattle.plan_bind.proofs.tuple.put_row.Given as goal

-- the values for the columns so far
abbrev pub invariant-loop-place : goal.invariant-loop-place
invariant-loop-place l = l.values.items ≡ map (value_at l.tuple) (take l.place-index l.places)
