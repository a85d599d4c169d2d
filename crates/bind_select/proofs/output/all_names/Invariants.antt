use Rattle.std.proofs.Common.{◌≡◌, map, take}
use Rattle.bind_select.specs.Star.{column_name}
use Rattle.bind_select.proofs.output.all_names.Given as goal

-- the columns so far have their names
abbrev pub invariant-loop-number : goal.invariant-loop-number
invariant-loop-number l = l.names ≡ map column_name (take l.number l.scope)
