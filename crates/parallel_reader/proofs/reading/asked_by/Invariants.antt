use Rattle.std.proofs.Common.{◌≤◌, length}
use Rattle.std.specs.Vec.Iter.{into_iter_items}
use Rattle.std.specs.Vec.{vec_capacity}
use Rattle.parallel_reader.proofs.ReadTexts.{AskedTo}
use Rattle.parallel_reader.proofs.reading.asked_by.Given as goal

abbrev pub invariant-loop-one : goal.invariant-loop-one
invariant-loop-one l = AskedTo l.fn.unread.items l.yielded (into_iter_items l.one-iterator) l.asked.items × (length l.fn.unread.items ≤ vec_capacity l.asked)
