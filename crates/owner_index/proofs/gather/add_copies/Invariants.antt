use Rattle.std.proofs.Common.{◌≡◌, ◌++◌, take}
use Rattle.owner_index.proofs.gather.add_copies.Given as goal

abbrev pub invariant-loop-subject : goal.invariant-loop-subject
invariant-loop-subject l = l.set.items ≡ l.fn.set.items ++ take l.subject-index l.subjects
