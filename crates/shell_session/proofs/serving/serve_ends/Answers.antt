use Rattle.std.proofs.Common.{[], ◌∷◌, subst, append_assoc, ◌∙◌}
use Rattle.std.specs.Prelude.{Err, Some}
use Rattle.std.specs.Vec.Iter.{into_iter_items}
use Rattle.shell_session.specs.DiskView.{view_of}
use Rattle.shell_session.specs.Opening.{opening_of}
use Rattle.shell_session.specs.Served.{ServesCalls}
use Rattle.shell_session.proofs.LifeLemmas.{served-more, served-one}
use Rattle.shell_session.proofs.serving.serve_ends.Goals as goal

pub loop-call-preserved : goal.loop-call-preserved
loop-call-preserved g c = let view = view_of g.D.Disk.leaves g.D.Disk.moment g.D.Disk.might_have_left g.D.Disk.honest g.D.Disk.faults in
    let so_far = c.loop-call.invariant in
    let whole = rw c.in-Some.ensures.steps.0 at so_far.whole in
    record {
      keeps = c.in-Ok.ensures.keeps;
      whole = append_assoc c.loop-call.yielded (c.in-Some.call ∷ []) (into_iter_items c.next.new.self) ∙ whole;
      serves = served-one view c.args.manner.form (opening_of c.args.engine.now) (opening_of c.loop-call.engine) (opening_of c.serve_call.new.engine) c.loop-call.yielded c.in-Some.call 0 c.in-Ok.field-0
          (g.W.Sink.written c.args.sink.now) (g.W.Sink.written c.loop-call.sink) (g.W.Sink.written c.serve_call.new.sink) so_far.serves c.in-Ok.ensures.serves;
      steady = c.in-Ok.ensures.steady (λ is. cc) ∙ so_far.steady;
      readable = (rw c.in-Some.ensures.steps.0 at so_far.readable).1;
      sessions = (rw c.in-Some.ensures.steps.0 at so_far.sessions).1;
    }

pub returns-in-Err-clause-serves : goal.returns-in-Err-clause-serves
returns-in-Err-clause-serves g c = let view = view_of g.D.Disk.leaves g.D.Disk.moment g.D.Disk.might_have_left g.D.Disk.honest g.D.Disk.faults in
    let so_far = c.loop-call.invariant in
    let whole = rw c.in-Some.ensures.steps.0 at so_far.whole in
    subst (λ calls. ServesCalls view c.args.manner.form (opening_of c.args.engine.now) (opening_of c.serve_call.new.engine) calls (Some c.in-Err.fault) (g.W.Sink.written c.args.sink.now) (g.W.Sink.written c.serve_call.new.sink))
    whole (served-more view c.args.manner.form (opening_of c.args.engine.now) (opening_of c.loop-call.engine) (opening_of c.serve_call.new.engine) c.loop-call.yielded c.in-Some.call (into_iter_items c.next.new.self) 0 (Err c.in-Err.fault)
    (g.W.Sink.written c.args.sink.now) (g.W.Sink.written c.loop-call.sink) (g.W.Sink.written c.serve_call.new.sink) so_far.serves c.in-Err.ensures.serves (λ none. cc))
