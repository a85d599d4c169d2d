use Rattle.std.proofs.Common.{◌≡◌, ◌++◌, take}
use Rattle.owner_sets.proofs.gather.add_copies.Given as goal

-- the subjects so far are added
abbrev pub invariant-loop-subject : goal.invariant-loop-subject
invariant-loop-subject l = l.subjects ≡ l.initial.subjects ++ take l.subject-index l.more
