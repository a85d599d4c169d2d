use Rattle.owner_sets.proofs.MarkLemmas.{NumberedTo}
use Rattle.owner_sets.proofs.leading.add_number.Given as goal

-- the lists so far have the number
abbrev pub invariant-loop-at : goal.invariant-loop-at
invariant-loop-at l = NumberedTo l.marks l.number l.at l.initial.lists.items l.lists.items
