use Rattle.std.proofs.Common.{◌≡◌, ◌++◌, drop, map}
use Rattle.std.specs.List.{enumerate_from}
use Rattle.shelf_erase.specs.Lost.{value_left}
use Rattle.shelf_erase.proofs.losing.row_left.Given as goal

-- the values so far, and those that are left
abbrev pub invariant-loop-number : goal.invariant-loop-number
invariant-loop-number l =
    let left = value_left l.removals l.definition l.ruled in
    l.values ++ map left (enumerate_from l.number (drop l.number l.row)) ≡ map left (enumerate_from 0 l.row)
