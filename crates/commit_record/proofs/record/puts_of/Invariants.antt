use Rattle.std.proofs.Common.{◌≡◌, take}
use Rattle.disk_model.specs.PutOf.{puts_of}
use Rattle.commit_record.proofs.record.puts_of.Given as goal

-- what is kept of the changes so far
abbrev pub invariant-loop-change : goal.invariant-loop-change
invariant-loop-change l = l.puts.items ≡ puts_of (take l.change-index l.changes)
