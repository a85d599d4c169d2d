use Rattle.shell_session.specs.DiskView.{view_of}
use Rattle.shell_session.specs.Opening.{opening_of}
use Rattle.shell_session.proofs.OpeningLemmas.{keeps-none, opened-first, opened-none}
use Rattle.shell_session.proofs.opening.open.Goals as goal

pub returns-in-Ok-clause-ok : goal.returns-in-Ok-clause-ok
returns-in-Ok-clause-ok g c = let view = view_of g.D.Disk.leaves g.D.Disk.moment g.D.Disk.might_have_left g.D.Disk.honest g.D.Disk.faults in
    opened-first g.D.Disk.holds view c.args.disk c.in-Ok.engine (record {
      base = c.in-Ok.ensures.base;
      history = c.in-Ok.ensures.history;
      left = c.in-Ok.ensures.left;
      moments = c.in-Ok.ensures.moments;
      honesty = c.in-Ok.ensures.honesty;
      time = c.in-Ok.ensures.time;
      steady = c.in-Ok.ensures.steady;
    })

pub returns-in-Ok-clause-keeps : goal.returns-in-Ok-clause-keeps
returns-in-Ok-clause-keeps g c =
    keeps-none c.new.result (opening_of c.in-Ok.engine) c.in-Ok.ensures.history c.new.ensures.marks c.new.ensures.failed c.new.ensures.tables

pub returns-in-Err-clause-err : goal.returns-in-Err-clause-err
returns-in-Err-clause-err g c = let view = view_of g.D.Disk.leaves g.D.Disk.moment g.D.Disk.might_have_left g.D.Disk.honest g.D.Disk.faults in
    opened-none g.D.Disk.holds view c.args.disk c.in-Err.back.0 c.in-Err.back.1 (record {
      moments = c.in-Err.ensures.moments_err;
      honesty = c.in-Err.ensures.honesty_err;
      time = c.in-Err.ensures.time_err;
      damaged = c.in-Err.ensures.damaged;
      kept_a = c.in-Err.ensures.kept_a;
      kept_b = c.in-Err.ensures.kept_b;
      rose = c.in-Err.ensures.fault;
      steady = c.in-Err.ensures.steady_err;
      risen = c.in-Err.ensures.risen;
    })
