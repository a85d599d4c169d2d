use Rattle.sql_reader.proofs.Scripts.Ends.{EndsTo}
use Rattle.sql_reader.proofs.script.add_ends.Given as goal

abbrev pub invariant-loop-session : goal.invariant-loop-session
invariant-loop-session l = EndsTo l.initial.calls.list.items l.session l.calls.list.items
