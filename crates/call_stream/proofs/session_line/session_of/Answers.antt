use Rattle.std.proofs.Common.{sym, ◌∙◌, arith}
use Rattle.sql_reader.proofs.Scripts.SessionLines.{PassedTo-start, PassedTo-more}
use Rattle.call_stream.proofs.session_line.session_of.Goals as goal

pub loop-session-init : goal.loop-session-init
loop-session-init c = PassedTo-start c.args.line.now

pub loop-session-preserved : goal.loop-session-preserved
loop-session-preserved c = PassedTo-more c.args.line.now _ c.loop-session.invariant (omega arith) (sym c.names.ensures ∙ c.if-names.false)
