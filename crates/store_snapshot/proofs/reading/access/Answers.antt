use Rattle.state_model.proofs.CreatedSchema.{owner_schema-created, within-created}
use Rattle.store_snapshot.proofs.Subjects.{lent-there, subject-within}
use Rattle.store_snapshot.proofs.reading.access.Goals as goal

pub no_subject-requires : goal.no_subject-requires
no_subject-requires c = rw c.schema.ensures (subject-within c.args.version.now.schema c.args.subject.now.0.table.0 c.requires.subject)

pub sights_of-requires-clause-owner : goal.sights_of-requires-clause-owner
sights_of-requires-clause-owner c = owner_schema-created c.args.version.now c.requires.well_formed.created

pub collect-requires-clause-there : goal.collect-requires-clause-there
collect-requires-clause-there c = lent-there c.args.version.now c.args.subject.now.0 c.row.result c.row.ensures c.if-is_none.ensures

pub collect-requires-clause-owner : goal.collect-requires-clause-owner
collect-requires-clause-owner c = owner_schema-created c.args.version.now c.requires.well_formed.created

pub collect-requires-clause-limits : goal.collect-requires-clause-limits
collect-requires-clause-limits c = within-created c.args.version.now c.requires.well_formed.created
