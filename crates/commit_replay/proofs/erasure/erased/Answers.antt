use Rattle.state_model.proofs.CreatedSchema.{owner_schema-created, within-created}
use Rattle.commit_replay.proofs.erasure.erased.Goals as goal

pub erase_changes-requires-clause-limits : goal.erase_changes-requires-clause-limits
erase_changes-requires-clause-limits c = within-created c.args.version.now c.requires.sound.well_formed.created

pub erase_changes-requires-clause-owner : goal.erase_changes-requires-clause-owner
erase_changes-requires-clause-owner c = owner_schema-created c.args.version.now c.requires.sound.well_formed.created
