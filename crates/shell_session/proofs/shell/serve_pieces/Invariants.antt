use Rattle.std.proofs.Common.{◌≡◌, ◌<◌, length}
use Rattle.call_stream.specs.Taken.{IsRead, IsSound}
use Rattle.shell_session.specs.DiskView.{view_of}
use Rattle.shell_session.specs.Kept.{Keeps}
use Rattle.shell_session.specs.Opening.{opening_of}
use Rattle.shell_session.proofs.PieceLemmas.{LivesOn}
use Rattle.shell_session.proofs.shell.serve_pieces.Given as goal

-- no piece so far met a fault of the source or the sink, and all that it closed is served
abbrev pub invariant-loop : goal.invariant-loop
invariant-loop g l = record {
  room : 0 < length l.piece;
  sound : IsSound l.stream;
  keeps : Keeps l.opened.book (opening_of l.opened.engine);
  read : IsRead l.stream;
  lives : LivesOn (view_of g.D.Disk.leaves g.D.Disk.moment g.D.Disk.might_have_left g.D.Disk.honest g.D.Disk.faults) l.fn.manner.form (opening_of l.fn.opened.engine) (opening_of l.opened.engine) l.counter l.stream (g.R.Source.remaining l.fn.source) (g.R.Source.remaining l.source)
      (g.W.Sink.written l.fn.sink) (g.W.Sink.written l.sink);
  read_steady : g.R.Source.faults l.source ≡ g.R.Source.faults l.fn.source;
  write_steady : g.W.Sink.faults l.sink ≡ g.W.Sink.faults l.fn.sink;
}
