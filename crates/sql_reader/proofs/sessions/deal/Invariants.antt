use Rattle.std.specs.Vec.Iter.{into_iter_items}
use Rattle.sql_reader.proofs.Scripts.Dealing.{Dealt}
use Rattle.sql_reader.proofs.sessions.deal.Given as goal

abbrev pub invariant-loop-call : goal.invariant-loop-call
invariant-loop-call l = Dealt l.fn.calls.items l.yielded (into_iter_items l.call-iterator) l.lists.items
