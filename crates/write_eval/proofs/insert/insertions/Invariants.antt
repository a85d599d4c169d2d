use Rattle.std.proofs.Common.{◌≡◌, ◌++◌, map}
use Rattle.write_eval.specs.Insertions.{insertion}
use Rattle.write_eval.proofs.insert.insertions.Given as goal

-- the changes so far, and those of the rows that are left
abbrev pub invariant-loop-key : goal.invariant-loop-key
invariant-loop-key l = l.changes ++ map (insertion l.number) l.key-iterator ≡ map (insertion l.number) l.fn.given.entries
