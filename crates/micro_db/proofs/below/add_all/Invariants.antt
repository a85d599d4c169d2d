use Rattle.std.proofs.Common.{◌≡◌, ◌++◌, take}
use Rattle.micro_db.proofs.below.add_all.Given as goal

abbrev pub invariant-loop-name : goal.invariant-loop-name
invariant-loop-name l = l.work ≡ l.fn.work ++ take l.name-index l.names
