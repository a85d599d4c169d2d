use Rattle.state_model.proofs.CreatedSchema.{owner_schema-created, within-created}
use Rattle.shelf_tests.proofs.erasing.is_sound.Goals as goal

pub judge_flat-requires-clause-limits : goal.judge_flat-requires-clause-limits
judge_flat-requires-clause-limits g c = within-created c.args.version.now c.requires.created

pub judge_flat-requires-clause-owner : goal.judge_flat-requires-clause-owner
judge_flat-requires-clause-owner g c = owner_schema-created c.args.version.now c.requires.created
