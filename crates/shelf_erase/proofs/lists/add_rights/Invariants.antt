use Rattle.std.proofs.Common.{◌≡◌, ◌++◌, map, take}
use Rattle.shelf_erase.proofs.lists.add_rights.Given as goal

-- the right sides so far are there
abbrev pub invariant-loop-pair : goal.invariant-loop-pair
invariant-loop-pair g l = l.items ≡ l.fn.items ++ map (λ pair. pair.1) (take l.pair-index l.pairs)
