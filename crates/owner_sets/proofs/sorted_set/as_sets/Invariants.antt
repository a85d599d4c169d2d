use Rattle.std.specs.Vec.Iter.{into_iter_items}
use Rattle.owner_sets.proofs.SortedSets.{Sorting}
use Rattle.owner_sets.proofs.sorted_set.as_sets.Given as goal

-- the lists so far are as_sorted
abbrev pub invariant-loop-list : goal.invariant-loop-list
invariant-loop-list l = Sorting l.fn.lists.items (into_iter_items l.list-iterator) l.sets
