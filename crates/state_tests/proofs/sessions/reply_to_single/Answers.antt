use Rattle.write_eval.proofs.StoredTables.{stored_tables}
use Rattle.state_tests.proofs.sessions.reply_to_single.Goals as goal

pub single-requires-clause-tables : goal.single-requires-clause-tables
single-requires-clause-tables g c = stored_tables c.args.version.now c.requires.sound.well_formed
