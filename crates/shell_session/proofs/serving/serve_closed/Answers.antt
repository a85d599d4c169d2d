use Rattle.std.proofs.Common.{[], ◌∷◌, ◌++◌, refl, sym, ap, ◌∙◌}
use Rattle.std.specs.Prelude.{None, Ok, Err, Some}
use Rattle.shell_session.specs.DiskView.{view_of}
use Rattle.shell_session.specs.Opening.{opening_of}
use Rattle.shell_session.proofs.LifeLemmas.{closed-more, closed-none, closed-same, stopped-input, stopped-other}
use Rattle.shell_session.proofs.serving.serve_closed.Goals as goal

-- none is served yet
pub loop-init : goal.loop-init
loop-init g c = let view = view_of g.D.Disk.leaves g.D.Disk.moment g.D.Disk.might_have_left g.D.Disk.honest g.D.Disk.faults in record {
  sound = c.requires.sound;
  keeps = c.requires.keeps;
  serves = closed-none view c.args.manner.form (opening_of c.args.engine.now) c.args.stream.now (g.W.Sink.written c.args.sink.now);
  steady = refl;
}

-- one more
pub loop-preserved : goal.loop-preserved
loop-preserved g c = let view = view_of g.D.Disk.leaves g.D.Disk.moment g.D.Disk.might_have_left g.D.Disk.honest g.D.Disk.faults in record {
  sound = c.in-Ok-Some.ensures.sound;
  keeps = c.in-Ok.ensures.keeps;
  serves = closed-more view c.args.manner.form (opening_of c.args.engine.now) (opening_of c.loop.engine) (opening_of c.serve_read.new.engine) c.args.stream.now c.loop.stream c.next.new.self
      c.in-Ok-Some.read.call c.in-Ok-Some.read.line (Ok c.in-Ok.field-0) (g.W.Sink.written c.args.sink.now) (g.W.Sink.written c.loop.sink) (g.W.Sink.written c.serve_read.new.sink)
      c.loop.invariant.serves (λ bytes texts calls taken. let next = rw c.in-Ok-Some.field-0-is at c.in-Ok-Some.ensures.ok bytes texts calls taken in (texts ++ next.0 ∷ [], next.1)) c.in-Ok.ensures.serves;
  steady = c.in-Ok.ensures.steady (λ is. cc) ∙ c.loop.invariant.steady;
}

-- one more, which met a fault
pub returns-in-Err-serve_read-clause-serves : goal.returns-in-Err-serve_read-clause-serves
returns-in-Err-serve_read-clause-serves g c = let view = view_of g.D.Disk.leaves g.D.Disk.moment g.D.Disk.might_have_left g.D.Disk.honest g.D.Disk.faults in
    closed-more view c.args.manner.form (opening_of c.args.engine.now) (opening_of c.loop.engine) (opening_of c.serve_read.new.engine) c.args.stream.now c.loop.stream c.next.new.self
    c.in-Ok-Some.read.call c.in-Ok-Some.read.line (Err c.in-Err-serve_read.fault) (g.W.Sink.written c.args.sink.now) (g.W.Sink.written c.loop.sink) (g.W.Sink.written c.serve_read.new.sink)
    c.loop.invariant.serves (λ bytes texts calls taken. let next = rw c.in-Ok-Some.field-0-is at c.in-Ok-Some.ensures.ok bytes texts calls taken in (texts ++ next.0 ∷ [], next.1)) c.in-Err-serve_read.ensures.serves

-- the bytes close no more
pub returns-in-Ok-None-clause-serves : goal.returns-in-Ok-None-clause-serves
returns-in-Ok-None-clause-serves g c = let view = view_of g.D.Disk.leaves g.D.Disk.moment g.D.Disk.might_have_left g.D.Disk.honest g.D.Disk.faults in
    closed-same view c.args.manner.form (opening_of c.args.engine.now) (opening_of c.loop.engine) c.args.stream.now c.loop.stream c.next.new.self None
    (g.W.Sink.written c.args.sink.now) (g.W.Sink.written c.loop.sink) (λ is. cc) c.loop.invariant.serves (λ bytes texts calls taken. let next = rw c.in-Ok-None.field-0-is at c.in-Ok-None.ensures.ok bytes texts calls taken in next.0) (λ why is. cc)

-- what closes next has a fault
pub returns-in-Err-clause-serves : goal.returns-in-Err-clause-serves
returns-in-Err-clause-serves g c = let view = view_of g.D.Disk.leaves g.D.Disk.moment g.D.Disk.might_have_left g.D.Disk.honest g.D.Disk.faults in
    closed-same view c.args.manner.form (opening_of c.args.engine.now) (opening_of c.loop.engine) c.args.stream.now c.loop.stream c.next.new.self (Some c.stopped.result)
    (g.W.Sink.written c.args.sink.now) (g.W.Sink.written c.loop.sink) (rw c.stopped.ensures (stopped-other c.in-Err.fault)) c.loop.invariant.serves (λ bytes texts calls taken. (c.in-Err.ensures.err bytes texts calls taken).0)
    (λ why is bytes texts calls taken. rw (← stopped-input c.in-Err.fault why (ap Some (sym c.stopped.ensures) ∙ is)) ((c.in-Err.ensures.err bytes texts calls taken).1))
