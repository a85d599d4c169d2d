use Rattle.state_model.proofs.CreatedSchema.{owner_schema-created, within-created}
use Rattle.disk_tests.proofs.writing.judged.Goals as goal

pub judge_flat-requires-clause-limits : goal.judge_flat-requires-clause-limits
judge_flat-requires-clause-limits g c = rw c.version.ensures (within-created c.args.next.now c.requires.created)

pub judge_flat-requires-clause-owner : goal.judge_flat-requires-clause-owner
judge_flat-requires-clause-owner g c = rw c.version.ensures (owner_schema-created c.args.next.now c.requires.created)
