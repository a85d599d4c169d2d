use Rattle.std.proofs.Common.{◌≡◌, ◌≤◌, length}
use Rattle.std.specs.Vec.Iter.{into_iter_items}
use Rattle.engine_core.specs.Seen.{disk_of}
use Rattle.history_model.specs.Fails.{TellsFailure}
use Rattle.crash_model.specs.MovesDisk.{MovesDisk}
use Rattle.store_top.proofs.CallsServed.{Serving}
use Rattle.store_top.proofs.lines.serve_calls.Given as goal

-- the calls so far are served, and the rest are left
abbrev pub invariant-loop-call : goal.invariant-loop-call
invariant-loop-call g l = record {
  room : length (into_iter_items l.call-iterator) ≤ l.engine.spare;
  base : l.engine.base ≡ l.fn.engine.base;
  start : l.engine.start ≡ l.fn.engine.start;
  journal : l.engine.journal ≡ l.fn.engine.journal;
  steady : g.W.Sink.faults l.sink ≡ g.W.Sink.faults l.fn.sink;
  serving : Serving l.fn.engine.base l.fn.calls.items l.yielded (into_iter_items l.call-iterator) l.engine.history (g.W.Sink.written l.fn.sink) (g.W.Sink.written l.sink);
  moves : MovesDisk g.D.Disk.moment g.D.Disk.might_have_left g.D.Disk.honest g.D.Disk.faults l.fn.engine.base l.fn.engine.start l.engine.history (disk_of l.fn.engine) (disk_of l.engine);
  failed : TellsFailure l.failed l.fn.engine.base l.engine.history;
}
