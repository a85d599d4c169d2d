use Rattle.sql_reader.proofs.Scripts.Dealing.{EmptyTo}
use Rattle.sql_reader.proofs.sessions.empty_lists.Given as goal

abbrev pub invariant-loop-session : goal.invariant-loop-session
invariant-loop-session l = EmptyTo l._session l.lists.items
