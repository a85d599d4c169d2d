use Rattle.std.proofs.Common.{arith}
use Rattle.std.specs.Vec.Iter.{into_iter_items}
use Rattle.std.proofs.lemmas.List.{nil_from_length}
use Rattle.owner_sets.proofs.SortedSets.{AreSortedSets-at, Sorting-end, Sorting-more}
use Rattle.owner_sets.proofs.sorted_set.as_sets.Goals as goal

-- one list more is as_sorted
pub loop-list-preserved : goal.loop-list-preserved
loop-list-preserved c =
    rw (c.in_ok-add.ensures.added)
    (Sorting-more c.args.lists.items (into_iter_items c.loop-list.list-iterator) (into_iter_items c.next.new.self) c.loop-list.sets c.in-Some.list c.as_set.result
    c.loop-list.invariant c.in-Some.ensures.steps.0 c.as_set.ensures)

pub returns : goal.returns
returns c = λ place.
    AreSortedSets-at c.args.lists.items c.loop-list.sets place
    (Sorting-end c.args.lists.items (into_iter_items c.loop-list.list-iterator) c.loop-list.sets c.loop-list.invariant
    (nil_from_length c.loop-list.list-iterator.rest.items (omega (arith, c.loop-list.list-iterator.rest.ok.0, c.in-None.ensures.steps.0))))
