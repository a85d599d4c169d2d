use Rattle.std.proofs.Common.{◌≡◌, take}
use Rattle.session_run.specs.Gathered.{GathersAll}
use Rattle.session_run.specs.Written.{lines_by_session}
use Rattle.session_run.proofs.printing.gather_sessions.Given as goal

-- the lines of the sessions so far are gathered
abbrev pub invariant-loop-own : goal.invariant-loop-own
invariant-loop-own g l = record {
  steady : g.W.Sink.faults l.sink ≡ g.W.Sink.faults l.fn.sink;
  gathered : GathersAll (g.W.Sink.written l.fn.sink) (g.W.Sink.written l.sink) l.fn.pending.items l.pending.items (lines_by_session (take l.own-index l.own-items));
  same : l.own-items ≡ l.fn.replies;
}
