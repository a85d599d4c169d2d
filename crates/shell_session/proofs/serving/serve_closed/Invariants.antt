use Rattle.std.proofs.Common.{◌≡◌}
use Rattle.std.specs.Prelude.{None}
use Rattle.call_stream.specs.Taken.{IsSound}
use Rattle.shell_session.specs.DiskView.{view_of}
use Rattle.shell_session.specs.Kept.{Keeps}
use Rattle.shell_session.specs.Opening.{opening_of}
use Rattle.shell_session.specs.Served.{ServesClosed}
use Rattle.shell_session.proofs.serving.serve_closed.Given as goal

-- the calls so far are served, and none met a fault of the sink
abbrev pub invariant-loop : goal.invariant-loop
invariant-loop g l = record {
  sound : IsSound l.stream;
  keeps : Keeps l.book (opening_of l.engine);
  serves : ServesClosed (view_of g.D.Disk.leaves g.D.Disk.moment g.D.Disk.might_have_left g.D.Disk.honest g.D.Disk.faults) l.fn.manner.form (opening_of l.fn.engine) (opening_of l.engine) l.fn.stream l.stream None (g.W.Sink.written l.fn.sink) (g.W.Sink.written l.sink);
  steady : g.W.Sink.faults l.sink ≡ g.W.Sink.faults l.fn.sink;
}
