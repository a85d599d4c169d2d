use Rattle.state_tests.proofs.KeptStores.{owner_schema, within_limits}
use Rattle.state_tests.proofs.owning.check_rows.Goals as goal

pub graph_of-requires-clause-limits : goal.graph_of-requires-clause-limits
graph_of-requires-clause-limits g c = rw c.schema.ensures (within_limits c.args.version.now c.requires.well_formed)

pub graph_of-requires-clause-owner : goal.graph_of-requires-clause-owner
graph_of-requires-clause-owner g c = rw c.schema.ensures (owner_schema c.args.version.now c.requires.well_formed)

pub of-requires-clause-owner : goal.of-requires-clause-owner
of-requires-clause-owner g c = owner_schema c.args.version.now c.requires.well_formed

pub of-requires-2-clause-limits : goal.of-requires-2-clause-limits
of-requires-2-clause-limits g c = within_limits c.args.version.now c.requires.well_formed

pub of-requires-2-clause-owner : goal.of-requires-2-clause-owner
of-requires-2-clause-owner g c = owner_schema c.args.version.now c.requires.well_formed
