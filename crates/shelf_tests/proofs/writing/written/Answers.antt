use Rattle.write_eval.proofs.StoredTables.{stored_tables}
use Rattle.shelf_tests.proofs.WriteTells.{kept-put, tells-written}
use Rattle.shelf_tests.proofs.writing.written.Goals as goal

pub write_changes-requires-clause-tables : goal.write_changes-requires-clause-tables
write_changes-requires-clause-tables g c = stored_tables c.args.version.now c.requires.well_formed

pub returns-clause-tells : goal.returns-clause-tells
returns-clause-tells g c =
    tells-written c.args.version.now c.args.bound.now c.requires.well_formed c.requires.write c.requires.left c.in-Ok.written c.in-Ok.ensures.ok

pub returns-clause-left : goal.returns-clause-left
returns-clause-left g c =
    kept-put c.args.version.now c.args.bound.now c.requires.well_formed c.requires.write c.requires.left c.in-Ok.written c.in-Ok.ensures.ok
