use Rattle.std.proofs.Common.{inl}
use Rattle.shell_session.specs.DiskView.{view_of}
use Rattle.shell_session.specs.Opening.{opening_of}
use Rattle.shell_session.proofs.CrashLemmas.{on-disk}
use Rattle.shell_session.proofs.shell.serve_shell.Goals as goal

-- the store was opened
pub returns-in-Ok-open-clause-served : goal.returns-in-Ok-open-clause-served
returns-in-Ok-open-clause-served g c = let view = view_of g.D.Disk.leaves g.D.Disk.moment g.D.Disk.might_have_left g.D.Disk.honest g.D.Disk.faults in
    let first = opening_of c.in-Ok-open.opened.engine in
    let lives = c.serve_pieces.ensures.lives in
    inl (record {
      first = first;
      opened = c.in-Ok-open.ensures.ok;
      lives = lives;
      on_disk = on-disk view g.D.Disk.holds g.met.D.Disk.only_now g.met.D.Disk.now_counts c.args.disk c.serve_pieces.result.disk first lives.last lives.events c.serve_pieces.result.fault
          c.in-Ok-open.ensures.ok lives.happened lives.ended;
    })
