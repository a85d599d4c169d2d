use Rattle.std.proofs.Common.{subst, sym}
use Rattle.txn_space.specs.Sound.{IsSpaceOf}
use Rattle.txn_space.proofs.SoundLemmas.{none_sound}
use Rattle.txn_core.proofs.SoundBases.{base-sound}
use Rattle.state_tests.proofs.KeptStores.{store}
use Rattle.state_tests.proofs.Readiness.{rows-none}
use Rattle.state_tests.proofs.reading.check_txn.Goals as goal

pub run-requires-clause-store : goal.run-requires-clause-store
run-requires-clause-store g c = store c.args.version.now c.requires.sound

-- a transaction that has changed nothing
pub run-requires-clause-space : goal.run-requires-clause-space
run-requires-clause-space g c = subst (IsSpaceOf c.args.version.now.schema.tables) (sym c.new-txn.ensures.nothing) (none_sound c.args.version.now.schema.tables)

pub run-requires-clause-rows : goal.run-requires-clause-rows
run-requires-clause-rows g c = rows-none c.args.version.now c.requires.sound.well_formed _ c.new-txn.ensures.nothing

pub changes-requires-clause-base : goal.changes-requires-clause-base
changes-requires-clause-base g c = base-sound c.args.version.now c.requires.sound

pub changes-requires-clause-space : goal.changes-requires-clause-space
changes-requires-clause-space g c = (rw c.expect-reply.ensures at c.run.ensures).ran.sound
