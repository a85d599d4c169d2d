use Rattle.std.proofs.Common.{◌≡◌, ◌++◌, map, take}
use Rattle.shelf_access.specs.Got.{got_copy}
use Rattle.shelf_access.proofs.shown.add_run.Given as goal

-- the rows of the copies so far are there
abbrev pub invariant-loop-copy : goal.invariant-loop-copy
invariant-loop-copy l = l.shown ≡ l.fn.shown ++ map (got_copy l.schema l.subject.0) (take l.copy-index l.run)
