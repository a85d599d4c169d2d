use Rattle.std.proofs.Common.{◌≡◌, map, take}
use Rattle.bind_select.specs.Star.{column_kind}
use Rattle.bind_select.proofs.output_kinds.all_kinds.Given as goal

-- the columns so far have their kinds
abbrev pub invariant-loop-number : goal.invariant-loop-number
invariant-loop-number l = l.kinds ≡ map column_kind (take l.number l.scope)
