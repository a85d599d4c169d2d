use Rattle.std.proofs.Common.{length, refl, rules}
use Rattle.outer_world.proofs.DiskSteps.{one_more_is, either_end, ok_end, stays_unchanged, beside_unchanged, follows_unchanged, torn_alone, cut_alone, elapses_unchanged, elapses_one_more, beside_one_more, holds_written, follows_write, holds_cut, follows_cut, synced_now, stays_synced}
use Rattle.outer_world.proofs.FuseSteps.{unchanged_by_fault, fuse_stays, fuse_beside, fuse_follows, fuse_synced, fuse_elapses}
use Rattle.outer_world.specs.Torn.{Torn}
use Rattle.outer_world.specs.TornCut.{TornCut}
use Rattle.own_base.specs.declared.number.Area.TheVariants.{A, B}
use Rattle.outer_world.specs.declared.change.Change.TheVariants.{Write, Cut, Sync}
use Rattle.outer_world.proofs.fuse_disk.FuseDiskDisk.TheImpl.Goals as goal

-- a call that succeeds is one call more of the disk behind the fuse, and one that fails changes nothing
pub write_at-tells : goal.write_at-tells
write_at-tells c =
    let old = c.args.self.now in
    let new = c.new.self.now in
    let area = c.args.area in
    let change = Write c.args.at c.args.bytes.now in
    record {
      written = ok_end c.result _ _ c.ensures.ok (λ ok _. holds_written old.disk new.disk area c.args.at c.args.bytes.now (one_more_is old.disk new.disk area change _ ok));
      torn = λ _. fuse_follows area (Torn c.args.at (length c.args.bytes.now)) old new (either_end c.result _ _ _ c.ensures.ok c.ensures.fault
          (λ ok. follows_write old.disk new.disk area c.args.at c.args.bytes.now (c.requires refl) (one_more_is old.disk new.disk area change _ ok))
          (λ err. follows_unchanged old.disk new.disk area (Torn c.args.at (length c.args.bytes.now)) (torn_alone c.args.at (length c.args.bytes.now)) (unchanged_by_fault old new err)));
      beside = λ _. fuse_beside area old new (either_end c.result _ _ _ c.ensures.ok c.ensures.fault
          (λ ok. beside_one_more old.disk new.disk area change (one_more_is old.disk new.disk area change _ ok))
          (λ err. beside_unchanged old.disk new.disk area (unchanged_by_fault old new err)));
      honesty = refl;
      time = fuse_elapses old new (either_end c.result _ _ _ c.ensures.ok c.ensures.fault
          (λ ok. elapses_one_more old.disk new.disk area change (one_more_is old.disk new.disk area change _ ok))
          (λ err. elapses_unchanged old.disk new.disk (unchanged_by_fault old new err)));
      fault = search rules;
      steady = search rules;
      counted = search rules;
      in_range = search rules;
    }

pub cut-tells : goal.cut-tells
cut-tells c =
    let old = c.args.self.now in
    let new = c.new.self.now in
    let area = c.args.area in
    let change = Cut c.args.len in
    record {
      cut = ok_end c.result _ _ c.ensures.ok (λ ok _. holds_cut old.disk new.disk area c.args.len (one_more_is old.disk new.disk area change _ ok));
      torn = λ _. fuse_follows area (TornCut c.args.len) old new (either_end c.result _ _ _ c.ensures.ok c.ensures.fault
          (λ ok. follows_cut old.disk new.disk area c.args.len (c.requires refl) (one_more_is old.disk new.disk area change _ ok))
          (λ err. follows_unchanged old.disk new.disk area (TornCut c.args.len) (cut_alone c.args.len) (unchanged_by_fault old new err)));
      beside = λ _. fuse_beside area old new (either_end c.result _ _ _ c.ensures.ok c.ensures.fault
          (λ ok. beside_one_more old.disk new.disk area change (one_more_is old.disk new.disk area change _ ok))
          (λ err. beside_unchanged old.disk new.disk area (unchanged_by_fault old new err)));
      honesty = refl;
      time = fuse_elapses old new (either_end c.result _ _ _ c.ensures.ok c.ensures.fault
          (λ ok. elapses_one_more old.disk new.disk area change (one_more_is old.disk new.disk area change _ ok))
          (λ err. elapses_unchanged old.disk new.disk (unchanged_by_fault old new err)));
      fault = search rules;
      steady = search rules;
      counted = search rules;
      in_range = search rules;
    }

pub sync-tells : goal.sync-tells
sync-tells c =
    let old = c.args.self.now in
    let new = c.new.self.now in
    let area = c.args.area in
    record {
      durable = ok_end c.result _ _ c.ensures.ok (λ ok _. fuse_synced area new (synced_now old.disk new.disk area (one_more_is old.disk new.disk area Sync _ ok)));
      same_a = λ _. fuse_stays A old new (either_end c.result _ _ _ c.ensures.ok c.ensures.fault
          (λ ok. stays_synced old.disk new.disk area (one_more_is old.disk new.disk area Sync _ ok) A)
          (λ err. stays_unchanged old.disk new.disk (unchanged_by_fault old new err) A));
      same_b = λ _. fuse_stays B old new (either_end c.result _ _ _ c.ensures.ok c.ensures.fault
          (λ ok. stays_synced old.disk new.disk area (one_more_is old.disk new.disk area Sync _ ok) B)
          (λ err. stays_unchanged old.disk new.disk (unchanged_by_fault old new err) B));
      honesty = refl;
      time = fuse_elapses old new (either_end c.result _ _ _ c.ensures.ok c.ensures.fault
          (λ ok. elapses_one_more old.disk new.disk area Sync (one_more_is old.disk new.disk area Sync _ ok))
          (λ err. elapses_unchanged old.disk new.disk (unchanged_by_fault old new err)));
      fault = search rules;
      steady = search rules;
      counted = search rules;
      in_range = search rules;
    }
