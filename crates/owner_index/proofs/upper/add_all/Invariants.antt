use Rattle.std.proofs.Common.{◌≡◌, ◌++◌, map, take}
use Rattle.owner_index.specs.Uppers.{as_upper}
use Rattle.owner_index.proofs.upper.add_all.Given as goal

-- the rows so far are there
abbrev pub invariant-loop-name : goal.invariant-loop-name
invariant-loop-name l = l.uppers ≡ l.fn.uppers ++ map (as_upper l.owner) (take l.name-index l.names)
