use Rattle.write_eval.proofs.StoredTables.{stored_tables}
use Rattle.disk_tests.proofs.RowWrites.{left-changed, net-changed}
use Rattle.disk_tests.proofs.writing.written.Goals as goal

pub single-single-requires-clause-tables : goal.single-single-requires-clause-tables
single-single-requires-clause-tables g c = stored_tables c.args.version.now c.requires.sound.well_formed

pub returns-clause-net : goal.returns-clause-net
returns-clause-net g c =
    net-changed c.args.version.now c.requires.sound.well_formed.ordered c.args.bound.now c.requires.write c.in-Ok.field-0-0 c.in-Ok.changes c.in-Ok.ensures.ok.1

pub returns-clause-left : goal.returns-clause-left
returns-clause-left g c =
    left-changed c.args.version.now c.requires.sound.well_formed.ordered c.args.bound.now c.requires.write c.in-Ok.field-0-0 c.in-Ok.changes c.in-Ok.ensures.ok.1
