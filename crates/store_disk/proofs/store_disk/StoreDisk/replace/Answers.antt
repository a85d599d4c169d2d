use Rattle.std.proofs.Common.{◌≡◌, ◌+◌, ◌∷◌, [], arith, subst, sym}
use Rattle.std.specs.Prelude.{Result, Ok, Err, OnOk}
use Rattle.outer_world.specs.OtherArea.{other_of}
use Rattle.outer_world.proofs.Moments.{weaker}
use Rattle.commit_journal.specs.declared.journal.Journal.{Journal}
use Rattle.store_disk.specs.Kept.{IsEither}
use Rattle.store_disk.proofs.Keeping.{either-laid, image-gated, kept-laid}
use Rattle.store_disk.proofs.LaidAlone.{laid-alone}
use Rattle.store_disk.proofs.store_disk.StoreDisk.replace.Goals as goal

pub replace-requires-clause-gated : goal.replace-requires-clause-gated
replace-requires-clause-gated g c = image-gated c.requires.gated.db c.args.commits c.args.gated.now c.requires.gated.is

pub returns-clause-kept : goal.returns-clause-kept
returns-clause-kept g c next honest sound is =
    let D = g.D.Disk in
    let room = c.requires.room.one_more in
    let most = c.requires.most in
    kept-laid D.holds D.leaves c.canonical_text_reads_back.ensures c.replace.new.self next c.args.commits (c.args.self.now.journal.epoch + 1) c.args.gated.now sound (omega arith) is
    (c.in_ok-replace.ensures.rests honest)

-- the area that it lies in is the other one
pub returns-clause-alone : goal.returns-clause-alone
returns-clause-alone g c next honest is =
    let D = g.D.Disk in
    let room = c.requires.room.one_more in
    let most = c.requires.most in
    let old = c.args.self.now.journal in
    let rests = c.in_ok-replace.ensures.rests honest in
    laid-alone D.holds D.leaves c.replace.new.self.disk (other_of old.area) next c.args.commits (old.epoch + 1) c.args.gated.now (omega arith) is rests.synced
    (c.in_ok-replace.ensures.alone honest) (subst (λ area. D.holds c.replace.new.self.disk (other_of area) ≡ 0 ∷ []) c.in_ok-replace.ensures.at.in_area rests.beside)

moments : goal.returns-clause-moments
moments g c db next honest sound is kept =
    let D = g.D.Disk in
    let old = c.args.self.now.journal in
    let room = c.requires.room.one_more in
    let most = c.requires.most in
    weaker D.leaves D.moment D.might_have_left g.met.D.Disk.only_now old.disk c.replace.new.self.disk _ (IsEither db c.args.self.now.commits next c.args.commits)
    (either-laid D.holds D.leaves c.canonical_text_reads_back.ensures old db c.args.self.now.commits next c.args.commits (old.epoch + 1) c.args.gated.now kept sound (omega arith) is)
    (c.replace.ensures.moments kept.stored honest kept.rests)

pub returns-clause-moments : goal.returns-clause-moments
returns-clause-moments g c db next honest sound is kept = moments g c db next honest sound is kept

pub returns-in_err-replace-clause-moments : goal.returns-in_err-replace-clause-moments
returns-in_err-replace-clause-moments g c db next honest sound is kept =
    let D = g.D.Disk in
    let old = c.args.self.now.journal in
    let room = c.requires.room.one_more in
    let most = c.requires.most in
    weaker D.leaves D.moment D.might_have_left g.met.D.Disk.only_now old.disk c.replace.new.self.disk _ (IsEither db c.args.self.now.commits next c.args.commits)
    (either-laid D.holds D.leaves c.canonical_text_reads_back.ensures old db c.args.self.now.commits next c.args.commits (old.epoch + 1) c.args.gated.now kept sound (omega arith) is)
    (c.replace.ensures.moments kept.stored honest kept.rests)
