use Rattle.std.proofs.Common.{◌≡◌, map, take}
use Rattle.shelf_erase.specs.Upper.{named}
use Rattle.shelf_erase.proofs.lists.names_of.Given as goal

-- the names of the keys so far are there
abbrev pub invariant-loop-key : goal.invariant-loop-key
invariant-loop-key l = l.names ≡ map (named l.table) (take l.key-index l.keys)
