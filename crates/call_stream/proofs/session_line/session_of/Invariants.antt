use Rattle.sql_reader.proofs.Scripts.SessionLines.{PassedTo}
use Rattle.call_stream.proofs.session_line.session_of.Given as goal

abbrev pub invariant-loop-session : goal.invariant-loop-session
invariant-loop-session l = PassedTo l.line l.session
