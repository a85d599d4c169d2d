use Rattle.std.proofs.Common.{ap, subst, sym, ◌∙◌}
use Rattle.own_model.specs.Db.{Db, IsOrdered}
use Rattle.state_model.specs.Sound.{IsWellFormed}
use Rattle.engine_core.proofs.Nets.{tells-net}
use Rattle.state_tests.proofs.viewing_looks.check_write.Goals as goal

-- the net of a write tells what stands
pub prepare-requires : goal.prepare-requires
prepare-requires g c =
    let after = subst IsWellFormed c.written-changes.ensures.left c.requires.well_formed in
    record {
      tells = rw c.items.ensures (tells-net c.args.version.now c.written-changes.result c.requires.sound.well_formed.ordered after.ordered c.written-changes.ensures.net);
      well_formed = c.requires.sound.well_formed;
    }
