use Rattle.std.proofs.Common.{◌+◌}
use Rattle.outer_world.proofs.Moments.{weaker}
use Rattle.store_disk.specs.Kept.{IsEither}
use Rattle.store_disk.proofs.Keeping.{either-left, kept-appended, record-framed}
use Rattle.store_disk.proofs.store_disk.StoreDisk.append.Goals as goal

pub append-requires-clause-framed : goal.append-requires-clause-framed
append-requires-clause-framed g c = record-framed c.requires.framed.commit c.args.framed.now c.requires.framed.is

pub returns-in_err-append-clause-moments : goal.returns-in_err-append-clause-moments
returns-in_err-append-clause-moments g c commit db after honest is follows kept =
    let D = g.D.Disk in
    let old = c.args.self.now.journal in
    weaker D.leaves D.moment D.might_have_left g.met.D.Disk.only_now old.disk c.append.new.self.disk _ (IsEither db c.args.self.now.commits after (c.args.self.now.commits + 1))
    (either-left D.holds D.leaves old db after c.args.self.now.commits commit c.args.framed.now kept is follows) (c.append.ensures.moments kept.stored honest kept.rests)

pub returns-clause-kept : goal.returns-clause-kept
returns-clause-kept g c commit db after honest is follows kept =
    let D = g.D.Disk in
    kept-appended D.holds D.leaves c.args.self.now.journal c.append.new.self db after c.args.self.now.commits commit c.args.framed.now kept is follows
    (c.in_ok-append.ensures.rests kept.stored honest kept.rests)

pub returns-clause-moments : goal.returns-clause-moments
returns-clause-moments g c commit db after honest is follows kept =
    let D = g.D.Disk in
    let old = c.args.self.now.journal in
    weaker D.leaves D.moment D.might_have_left g.met.D.Disk.only_now old.disk c.append.new.self.disk _ (IsEither db c.args.self.now.commits after (c.args.self.now.commits + 1))
    (either-left D.holds D.leaves old db after c.args.self.now.commits commit c.args.framed.now kept is follows) (c.append.ensures.moments kept.stored honest kept.rests)
