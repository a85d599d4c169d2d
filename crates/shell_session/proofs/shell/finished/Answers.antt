use Rattle.std.proofs.Common.{refl}
use Rattle.std.specs.Prelude.{Err, None, Some}
use Rattle.shell_session.specs.DiskView.{view_of}
use Rattle.shell_session.specs.Opening.{opening_of}
use Rattle.shell_session.specs.declared.ending.ShellFault.TheVariants.{Write}
use Rattle.shell_session.proofs.PieceLemmas.{closed-over, end-closed, untold-unmet}
use Rattle.shell_session.proofs.shell.finished.Goals as goal

pub returns-in-Ok-clause-serves : goal.returns-in-Ok-clause-serves
returns-in-Ok-clause-serves g c = let view = view_of g.D.Disk.leaves g.D.Disk.moment g.D.Disk.might_have_left g.D.Disk.honest g.D.Disk.faults in
    let after = opening_of c.serve_end-fault.new.engine in (
      after,
      end-closed view c.args.manner.form (opening_of c.args.opened.engine) after c.args.stream None c.closed.result.fault (g.W.Sink.written c.args.sink.now) (g.W.Sink.written c.serve_end-fault.new.sink)
          c.closed.ensures.same c.in-Ok.ensures.serves,
      closed-over c.serve_end-fault.new.book after c.closed.result.fault c.closed.result.disk c.in-Ok.ensures.keeps c.closed.ensures.failed c.closed.ensures.calm c.closed.ensures.undamaged c.closed.ensures.disk,
    )

pub returns-in-Err-clause-serves : goal.returns-in-Err-clause-serves
returns-in-Err-clause-serves g c = let view = view_of g.D.Disk.leaves g.D.Disk.moment g.D.Disk.might_have_left g.D.Disk.honest g.D.Disk.faults in
    let after = opening_of c.serve_end-fault.new.engine in (
      after,
      end-closed view c.args.manner.form (opening_of c.args.opened.engine) after c.args.stream (Some c.in-Err.fault) c.closed-in-Err.result.fault (g.W.Sink.written c.args.sink.now) (g.W.Sink.written c.serve_end-fault.new.sink)
          c.closed-in-Err.ensures.same c.in-Err.ensures.serves,
      closed-over c.serve_end-fault.new.book after c.closed-in-Err.result.fault c.closed-in-Err.result.disk c.in-Err.ensures.keeps c.closed-in-Err.ensures.failed c.closed-in-Err.ensures.calm c.closed-in-Err.ensures.undamaged c.closed-in-Err.ensures.disk,
    )

-- a write that didn't fail raised no count
pub returns-in-Err-clause-write_steady : goal.returns-in-Err-clause-write_steady
returns-in-Err-clause-write_steady g c untold =
    c.in-Err.ensures.steady (untold-unmet c.in-Err.fault Write c.closed-in-Err.result.fault (Err c.in-Err.fault) c.closed-in-Err.ensures.same (λ is. cc) untold refl)
