use Rattle.write_eval.proofs.StoredTables.{stored_tables}
use Rattle.state_tests.proofs.writing.check_write.Goals as goal

pub write_changes-requires-clause-tables : goal.write_changes-requires-clause-tables
write_changes-requires-clause-tables g c = stored_tables c.args.version.now c.requires.sound.well_formed
