use Rattle.std.proofs.Common.{◌≡◌, take}
use Rattle.std.specs.Prelude.{map}
use Rattle.session_run.specs.Gathered.{GathersAll}
use Rattle.session_run.proofs.printing.gather_session.Given as goal

-- the lines of the calls so far are gathered
abbrev pub invariant-loop-told : goal.invariant-loop-told
invariant-loop-told g l = record {
  steady : g.W.Sink.faults l.sink ≡ g.W.Sink.faults l.fn.sink;
  gathered : GathersAll (g.W.Sink.written l.fn.sink) (g.W.Sink.written l.sink) l.fn.pending.items l.pending.items (map (λ told. told.lines) (take l.told-index l.told-items));
  same : l.told-items ≡ l.fn.replies.replies;
}
