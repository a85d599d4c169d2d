use Rattle.state_model.proofs.CreatedSchema.{owner_schema-created, within-created}
use Rattle.shelf_tests.proofs.erasing.flat_forget.Goals as goal

pub erase_changes-requires-clause-limits : goal.erase_changes-requires-clause-limits
erase_changes-requires-clause-limits g c = within-created c.args.version.now c.requires.sound.well_formed.created

pub erase_changes-requires-clause-owner : goal.erase_changes-requires-clause-owner
erase_changes-requires-clause-owner g c = owner_schema-created c.args.version.now c.requires.sound.well_formed.created
