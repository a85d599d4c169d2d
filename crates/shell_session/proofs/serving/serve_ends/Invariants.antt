use Rattle.std.proofs.Common.{◌≡◌, ◌++◌}
use Rattle.std.specs.List.{AllByRecursion}
use Rattle.std.specs.Vec.Iter.{into_iter_items}
use Rattle.grammar_model.specs.Readable.{IsReadable}
use Rattle.script_model.specs.Split.{IsOfASession}
use Rattle.shell_session.specs.DiskView.{view_of}
use Rattle.shell_session.specs.Kept.{Keeps}
use Rattle.shell_session.specs.Opening.{opening_of}
use Rattle.shell_session.proofs.LifeLemmas.{HasServed}
use Rattle.shell_session.proofs.serving.serve_ends.Given as goal

-- the Ends so far are served, none met a fault of the sink, and those that are left may be made
abbrev pub invariant-loop-call : goal.invariant-loop-call
invariant-loop-call g l = record {
  keeps : Keeps l.book (opening_of l.engine);
  whole : l.yielded ++ into_iter_items l.call-iterator ≡ l.fn.ends.items;
  serves : HasServed (view_of g.D.Disk.leaves g.D.Disk.moment g.D.Disk.might_have_left g.D.Disk.honest g.D.Disk.faults) l.fn.manner.form (opening_of l.fn.engine) (opening_of l.engine) l.yielded (g.W.Sink.written l.fn.sink) (g.W.Sink.written l.sink);
  steady : g.W.Sink.faults l.sink ≡ g.W.Sink.faults l.fn.sink;
  readable : AllByRecursion (λ call. IsReadable call.request) (into_iter_items l.call-iterator);
  sessions : AllByRecursion IsOfASession (into_iter_items l.call-iterator);
}
