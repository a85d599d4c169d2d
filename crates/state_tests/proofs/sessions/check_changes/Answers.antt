use Rattle.txn_core.proofs.SoundBases.{base-sound}
use Rattle.state_tests.proofs.sessions.check_changes.Goals as goal

pub changes-requires-clause-base : goal.changes-requires-clause-base
changes-requires-clause-base g c = base-sound c.args.version.now c.requires.sound

pub changes-requires-clause-space : goal.changes-requires-clause-space
changes-requires-clause-space g c = (c.requires.ready 1).space

pub changes-requires-clause-quiet : goal.changes-requires-clause-quiet
changes-requires-clause-quiet g c = (c.requires.ready 1).quiet
