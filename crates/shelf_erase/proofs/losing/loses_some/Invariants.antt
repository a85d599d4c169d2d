use Rattle.std.proofs.Common.{◌≡◌, drop}
use Rattle.std.specs.List.{enumerate_from, list_any}
use Rattle.shelf_erase.specs.Lost.{loses_value}
use Rattle.shelf_erase.proofs.losing.loses_some.Given as goal

-- none is found so far, and so it is among those that are left if there is any
abbrev pub invariant-loop-number : goal.invariant-loop-number
invariant-loop-number l =
    let lost = loses_value l.removals l.definition l.ruled in
    list_any lost (enumerate_from l.number (drop l.number l.row)) ≡ list_any lost (enumerate_from 0 l.row)
