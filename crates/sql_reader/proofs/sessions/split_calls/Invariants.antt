use Rattle.std.specs.Vec.Iter.{into_iter_items}
use Rattle.sql_reader.proofs.Scripts.Dealing.{Gathered}
use Rattle.sql_reader.proofs.sessions.split_calls.Given as goal

abbrev pub invariant-loop-calls : goal.invariant-loop-calls
invariant-loop-calls l = Gathered l.fn.calls.items l.session (into_iter_items l.calls-iterator) l.sessions
