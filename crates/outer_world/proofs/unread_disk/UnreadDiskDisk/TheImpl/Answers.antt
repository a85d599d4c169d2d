use Rattle.std.proofs.Common.{length, take, refl, rules}
use Rattle.outer_world.proofs.DiskSteps.{either_end, ok_end, torn_alone, cut_alone}
use Rattle.outer_world.proofs.RamSteps.{elapses_changed, beside_changed, holds_changed, follows_changed, elapses_failed, beside_failed, follows_failed, write_is_torn, cut_is_torn}
use Rattle.outer_world.specs.Overwritten.{overwritten}
use Rattle.outer_world.specs.RamDisk.{held}
use Rattle.outer_world.specs.Torn.{Torn}
use Rattle.outer_world.specs.TornCut.{TornCut}
use Rattle.outer_world.proofs.unread_disk.UnreadDiskDisk.TheImpl.Goals as goal

-- a call that succeeds changes one area to these bytes, and one that fails changes none
pub write_at-tells : goal.write_at-tells
write_at-tells c =
    let old = c.args.self.now in
    let new = c.new.self.now in
    let area = c.args.area in
    let bytes = overwritten (held old area) c.args.at c.args.bytes.now in
    let step = Torn c.args.at (length c.args.bytes.now) in
    record {
      written = ok_end c.result _ _ c.ensures.ok (λ ok _. holds_changed old new area bytes ok);
      torn = λ _. either_end c.result _ _ _ c.ensures.ok c.ensures.fault
          (λ ok. follows_changed old new area bytes step (write_is_torn (held old area) c.args.at c.args.bytes.now (c.requires refl)) ok)
          (λ err. follows_failed old new _ area step (torn_alone c.args.at (length c.args.bytes.now)) err);
      beside = λ _. either_end c.result _ _ _ c.ensures.ok c.ensures.fault (λ ok. beside_changed old new area bytes ok) (λ err. beside_failed old new _ area err);
      honesty = refl;
      time = either_end c.result _ _ _ c.ensures.ok c.ensures.fault (λ ok. elapses_changed old new area bytes ok) (λ err. elapses_failed old new _ err);
      fault = search rules;
      steady = search rules;
      counted = search rules;
      in_range = search rules;
    }

pub cut-tells : goal.cut-tells
cut-tells c =
    let old = c.args.self.now in
    let new = c.new.self.now in
    let area = c.args.area in
    let bytes = take c.args.len (held old area) in
    let step = TornCut c.args.len in
    record {
      cut = ok_end c.result _ _ c.ensures.ok (λ ok _. holds_changed old new area bytes ok);
      torn = λ _. either_end c.result _ _ _ c.ensures.ok c.ensures.fault
          (λ ok. follows_changed old new area bytes step (cut_is_torn (held old area) c.args.len (c.requires refl)) ok)
          (λ err. follows_failed old new _ area step (cut_alone c.args.len) err);
      beside = λ _. either_end c.result _ _ _ c.ensures.ok c.ensures.fault (λ ok. beside_changed old new area bytes ok) (λ err. beside_failed old new _ area err);
      honesty = refl;
      time = either_end c.result _ _ _ c.ensures.ok c.ensures.fault (λ ok. elapses_changed old new area bytes ok) (λ err. elapses_failed old new _ err);
      fault = search rules;
      steady = search rules;
      counted = search rules;
      in_range = search rules;
    }
