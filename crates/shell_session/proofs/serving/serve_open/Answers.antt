use Rattle.std.proofs.Common.{[]}
use Rattle.shell_session.specs.DiskView.{view_of}
use Rattle.shell_session.specs.Opening.{opening_of}
use Rattle.shell_session.proofs.LifeLemmas.{calls-one, served-all, served-none}
use Rattle.shell_session.proofs.serving.serve_open.Goals as goal

-- its call
pub returns-in-Some-clause-serves : goal.returns-in-Some-clause-serves
returns-in-Some-clause-serves g c = let view = view_of g.D.Disk.leaves g.D.Disk.moment g.D.Disk.might_have_left g.D.Disk.honest g.D.Disk.faults in
    rw c.in-Some.is
    (calls-one view c.args.manner.form (opening_of c.args.engine.now) (opening_of c.serve_read.new.engine) c.in-Some.read.call c.in-Some.read.line c.serve_read.result
    (g.W.Sink.written c.args.sink.now) (g.W.Sink.written c.serve_read.new.sink) c.serve_read.ensures.serves)

-- none
pub returns-in-None-clause-serves : goal.returns-in-None-clause-serves
returns-in-None-clause-serves g c = let view = view_of g.D.Disk.leaves g.D.Disk.moment g.D.Disk.might_have_left g.D.Disk.honest g.D.Disk.faults in
    let here = opening_of c.args.engine.now in
    let written = g.W.Sink.written c.args.sink.now in
    rw c.in-None.is (served-all view c.args.manner.form here here [] written written (served-none view c.args.manner.form here written))
