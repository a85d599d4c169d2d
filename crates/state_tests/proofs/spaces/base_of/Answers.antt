use Rattle.txn_core.proofs.SoundBases.{base-sound}
use Rattle.state_tests.proofs.spaces.base_of.Goals as goal

-- a store without a fault has few rows
pub returns : goal.returns
returns c = base-sound c.version.result.now c.version.ensures
