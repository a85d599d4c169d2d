use Rattle.std.proofs.Common.{◌≡◌, [], drop, take}
use Rattle.plan_bind.specs.Repeats.{is_repeated}
use Rattle.plan_bind.proofs.repeats.is_repeated.Given as goal

-- a column that is set twice is to be found from here on
abbrev pub invariant-loop-number : goal.invariant-loop-number
invariant-loop-number l = is_repeated [] l.sets ≡ is_repeated (take l.number l.sets) (drop l.number l.sets)
