use Rattle.disk_tests.proofs.RowWrites.{tells-net}
use Rattle.disk_tests.proofs.writing.assert_sound.Goals as goal

-- the net of a write tells what stands
pub prepare-requires-clause-tells : goal.prepare-requires-clause-tells
prepare-requires-clause-tells g c =
    tells-net c.args.version.now c.args.changes.now c.requires.sound.well_formed.ordered c.requires.well_formed.ordered c.requires.net
