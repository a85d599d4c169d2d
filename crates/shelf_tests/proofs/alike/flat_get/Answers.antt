use Rattle.state_model.proofs.CreatedSchema.{owner_schema-created, within-created}
use Rattle.shelf_tests.proofs.alike.flat_get.Goals as goal

pub collect_by_graph-requires-clause-limits : goal.collect_by_graph-requires-clause-limits
collect_by_graph-requires-clause-limits g c = within-created c.args.version.now c.requires.well_formed.created

pub collect_by_graph-requires-clause-owner : goal.collect_by_graph-requires-clause-owner
collect_by_graph-requires-clause-owner g c = owner_schema-created c.args.version.now c.requires.well_formed.created
