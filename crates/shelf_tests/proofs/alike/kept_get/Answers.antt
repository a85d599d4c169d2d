use Rattle.state_model.proofs.CreatedSchema.{owner_schema-created, within-created}
use Rattle.shelf_tests.proofs.LentRows.{lent-there}
use Rattle.shelf_tests.proofs.alike.kept_get.Goals as goal

pub sights_of-requires-clause-owner : goal.sights_of-requires-clause-owner
sights_of-requires-clause-owner g c = owner_schema-created c.args.version.now c.requires.well_formed.created

pub collect-reply-requires-clause-there : goal.collect-reply-requires-clause-there
collect-reply-requires-clause-there g c = lent-there c.args.version.now c.args.subject.now.0 c.row.result c.row.ensures c.if-is_none.ensures

pub collect-reply-requires-clause-owner : goal.collect-reply-requires-clause-owner
collect-reply-requires-clause-owner g c = owner_schema-created c.args.version.now c.requires.well_formed.created

pub collect-reply-requires-clause-limits : goal.collect-reply-requires-clause-limits
collect-reply-requires-clause-limits g c = within-created c.args.version.now c.requires.well_formed.created
