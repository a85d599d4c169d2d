use Rattle.std.proofs.Common.{sym, ap, ◌∙◌}
use Rattle.std.specs.Prelude.{Some}
use Rattle.call_stream.specs.Taken.{open_calls}
use Rattle.shell_session.specs.DiskView.{view_of}
use Rattle.shell_session.specs.Opening.{opening_of}
use Rattle.shell_session.specs.Served.{fault_of}
use Rattle.shell_session.proofs.LifeLemmas.{calls-both, calls-cut, end-cut, end-of, plain-readable, plain-sessions, stopped-input, stopped-other}
use Rattle.shell_session.proofs.serving.serve_end.Goals as goal

-- the input ends with a fault
pub returns-in-Err-clause-serves : goal.returns-in-Err-clause-serves
returns-in-Err-clause-serves g c = let view = view_of g.D.Disk.leaves g.D.Disk.moment g.D.Disk.might_have_left g.D.Disk.honest g.D.Disk.faults in
    end-cut view c.args.manner.form (opening_of c.args.engine.now) c.args.stream c.stopped.result (g.W.Sink.written c.args.sink.now) (rw c.stopped.ensures (stopped-other c.in-Err.fault))
    (λ why is bytes texts calls taken. rw (← stopped-input c.in-Err.fault why (ap Some (sym c.stopped.ensures) ∙ is)) (c.in-Err.ensures.err bytes texts calls taken))

pub serve_ends-requires-clause-readable : goal.serve_ends-requires-clause-readable
serve_ends-requires-clause-readable g c = rw c.into_vec.ensures (plain-readable c.in-Ok.end.ends c.in-Ok.ensures.plain.1)

pub serve_ends-requires-clause-sessions : goal.serve_ends-requires-clause-sessions
serve_ends-requires-clause-sessions g c = rw c.into_vec.ensures (plain-sessions c.in-Ok.end.ends c.in-Ok.ensures.plain.1)

-- the open call was served, and so were the Ends
pub returns-in-Ok-serve_open-clause-serves : goal.returns-in-Ok-serve_open-clause-serves
returns-in-Ok-serve_open-clause-serves g c = let view = view_of g.D.Disk.leaves g.D.Disk.moment g.D.Disk.might_have_left g.D.Disk.honest g.D.Disk.faults in
    let end = c.in-Ok.end in
    let before = opening_of c.args.engine.now in
    let after = opening_of c.serve_ends.new.engine in
    let old = g.W.Sink.written c.args.sink.now in
    let new = g.W.Sink.written c.serve_ends.new.sink in
    let fault = fault_of c.serve_ends.result in
    end-of view c.args.manner.form before after c.args.stream end fault old new
    (calls-both view c.args.manner.form before (opening_of c.serve_open.new.engine) after (open_calls end.open_call) end.ends fault old (g.W.Sink.written c.serve_open.new.sink) new
    c.in-Ok-serve_open.ensures.serves (rw c.into_vec.ensures at c.serve_ends.ensures.serves))
    c.in-Ok.ensures.ok

-- the open call met a fault
pub returns-in-Err-serve_open-clause-serves : goal.returns-in-Err-serve_open-clause-serves
returns-in-Err-serve_open-clause-serves g c = let view = view_of g.D.Disk.leaves g.D.Disk.moment g.D.Disk.might_have_left g.D.Disk.honest g.D.Disk.faults in
    let end = c.in-Ok.end in
    let before = opening_of c.args.engine.now in
    let after = opening_of c.serve_open.new.engine in
    let old = g.W.Sink.written c.args.sink.now in
    let new = g.W.Sink.written c.serve_open.new.sink in
    let why = c.in-Err-serve_open.fault in
    end-of view c.args.manner.form before after c.args.stream end (Some why) old new
    (calls-cut view c.args.manner.form before after (open_calls end.open_call) end.ends why old new c.in-Err-serve_open.ensures.serves)
    c.in-Ok.ensures.ok
