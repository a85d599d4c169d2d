use Rattle.std.specs.Vec.Iter.{into_iter_items}
use Rattle.sql_reader.proofs.Scripts.Askings.{NumberedTo}
use Rattle.sql_reader.proofs.script.number_calls.Given as goal

abbrev pub invariant-loop-session : goal.invariant-loop-session
invariant-loop-session l = NumberedTo l.fn.asked.items l.yielded (into_iter_items l.session-iterator) l.calls.list.items
