use Rattle.std.proofs.Common.{◌≡◌, map, take}
use Rattle.bind_select.specs.Star.{column_item}
use Rattle.bind_select.proofs.items.all_columns.Given as goal

-- the columns so far are items
abbrev pub invariant-loop-number : goal.invariant-loop-number
invariant-loop-number l = l.bound ≡ map column_item (take l.number l.scope)
