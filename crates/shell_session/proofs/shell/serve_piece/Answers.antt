use Rattle.std.proofs.Common.{[], arith, take, refl, sym, ap, ◌∙◌}
use Rattle.std.specs.Prelude.{Err, Ok, Some, true, false}
use Rattle.shell_session.specs.DiskView.{view_of}
use Rattle.shell_session.specs.Opening.{opening_of}
use Rattle.shell_session.specs.declared.ending.ShellFault.TheVariants.{Read}
use Rattle.shell_session.proofs.LifeLemmas.{stopped-input, stopped-other}
use Rattle.shell_session.proofs.PieceLemmas.{piece-served, piece-unserved, pushed-fault, read-nothing, read-some}
use Rattle.shell_session.proofs.shell.serve_piece.Goals as goal

-- the source met a fault
pub returns-in-Err-clause-serves : goal.returns-in-Err-clause-serves
returns-in-Err-clause-serves g c = let view = view_of g.D.Disk.leaves g.D.Disk.moment g.D.Disk.might_have_left g.D.Disk.honest g.D.Disk.faults in
    let old = g.R.Source.remaining c.args.source.now in
    let new = g.R.Source.remaining c.read.new.self in
    piece-unserved view c.args.manner.form (opening_of c.args.opened.now.engine) c.args.stream.now c.args.stream.now (Err Read) [] old new (g.W.Sink.written c.args.sink.now)
    (λ is. cc) (λ none. refl) (read-nothing old new c.in-Err.ensures.kept) (λ is. cc) (λ bytes texts calls taken. taken) (λ why is. cc) (λ more is. cc)

-- the input is at its end
pub returns-then-count-eq0-clause-serves : goal.returns-then-count-eq0-clause-serves
returns-then-count-eq0-clause-serves g c = let view = view_of g.D.Disk.leaves g.D.Disk.moment g.D.Disk.might_have_left g.D.Disk.honest g.D.Disk.faults in
    piece-unserved view c.args.manner.form (opening_of c.args.opened.now.engine) c.args.stream.now c.args.stream.now (Ok false) []
    (g.R.Source.remaining c.args.source.now) (g.R.Source.remaining c.read.new.self) (g.W.Sink.written c.args.sink.now)
    (λ is. cc) (λ none. refl) (rw c.if-count-eq0.true at c.in-Ok.ensures.given) (λ is. c.in-Ok.ensures.end c.if-count-eq0.true (omega (arith, c.requires.room, c.read.auto.into))) (λ bytes texts calls taken. taken) (λ why is. cc) (λ more. cc)

-- the stream didn't take the bytes
pub returns-in-Err-push-clause-serves : goal.returns-in-Err-push-clause-serves
returns-in-Err-push-clause-serves g c = let view = view_of g.D.Disk.leaves g.D.Disk.moment g.D.Disk.might_have_left g.D.Disk.honest g.D.Disk.faults in
    piece-unserved view c.args.manner.form (opening_of c.args.opened.now.engine) c.args.stream.now c.push.new.self (Err c.stopped.result) (take c.in-Ok.count c.read.new.into)
    (g.R.Source.remaining c.args.source.now) (g.R.Source.remaining c.read.new.self) (g.W.Sink.written c.args.sink.now)
    (rw c.stopped.ensures (stopped-other c.in-Err-push.fault)) (λ none. cc) c.in-Ok.ensures.given (λ is. cc) c.in-Err-push.ensures.unchanged
    (λ why is bytes texts calls taken. pushed-fault c.args.stream.now bytes texts calls (take c.in-Ok.count c.read.new.into) why taken
    (rw (← stopped-input c.in-Err-push.fault why (ap Some (sym c.stopped.ensures) ∙ is)) c.in-Err-push.ensures.err)) (λ more is. cc)

-- the calls that they close were served,
pub returns-in-Ok-served-clause-serves : goal.returns-in-Ok-served-clause-serves
returns-in-Ok-served-clause-serves g c = let view = view_of g.D.Disk.leaves g.D.Disk.moment g.D.Disk.might_have_left g.D.Disk.honest g.D.Disk.faults in
    piece-served view c.args.manner.form (opening_of c.args.opened.now.engine) (opening_of c.serve_closed-served.new.engine) c.args.stream.now c.push.new.self c.serve_closed-served.new.stream (Ok true)
    (take c.in-Ok.count c.read.new.into) (g.R.Source.remaining c.args.source.now) (g.R.Source.remaining c.read.new.self) (g.W.Sink.written c.args.sink.now) (g.W.Sink.written c.serve_closed-served.new.sink)
    c.in-Ok.ensures.given refl (read-some c.in-Ok.count c.read.new.into c.in-Ok.ensures.within c.if-count-eq0.false) c.in-Ok-push.ensures.taken c.in-Ok-served.ensures.serves

-- up to a fault
pub returns-in-Err-served-clause-serves : goal.returns-in-Err-served-clause-serves
returns-in-Err-served-clause-serves g c = let view = view_of g.D.Disk.leaves g.D.Disk.moment g.D.Disk.might_have_left g.D.Disk.honest g.D.Disk.faults in
    piece-served view c.args.manner.form (opening_of c.args.opened.now.engine) (opening_of c.serve_closed-served.new.engine) c.args.stream.now c.push.new.self c.serve_closed-served.new.stream (Err c.in-Err-served.fault)
    (take c.in-Ok.count c.read.new.into) (g.R.Source.remaining c.args.source.now) (g.R.Source.remaining c.read.new.self) (g.W.Sink.written c.args.sink.now) (g.W.Sink.written c.serve_closed-served.new.sink)
    c.in-Ok.ensures.given refl (read-some c.in-Ok.count c.read.new.into c.in-Ok.ensures.within c.if-count-eq0.false) c.in-Ok-push.ensures.taken c.in-Err-served.ensures.serves
