use Rattle.write_eval.proofs.StoredTables.{stored_tables}
use Rattle.state_tests.proofs.KeptStores.{views_there}
use Rattle.state_tests.proofs.reading.reply_to.Goals as goal

pub select_reply-requires-clause-tables : goal.select_reply-requires-clause-tables
select_reply-requires-clause-tables g c = stored_tables c.args.version.now c.requires.sound.well_formed

pub select_reply-requires-clause-views : goal.select_reply-requires-clause-views
select_reply-requires-clause-views g c = views_there c.args.version.now c.requires.sound.well_formed
