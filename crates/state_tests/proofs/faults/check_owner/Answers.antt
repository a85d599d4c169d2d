use Rattle.state_tests.proofs.KeptStores.{owner_schema, within_limits}
use Rattle.state_tests.proofs.faults.check_owner.Goals as goal

pub graph_of-requires-clause-limits : goal.graph_of-requires-clause-limits
graph_of-requires-clause-limits g c = rw c.schema.ensures (within_limits c.args.version.now c.requires)

pub graph_of-requires-clause-owner : goal.graph_of-requires-clause-owner
graph_of-requires-clause-owner g c = rw c.schema.ensures (owner_schema c.args.version.now c.requires)

pub of-requires-clause-owner : goal.of-requires-clause-owner
of-requires-clause-owner g c = owner_schema c.args.version.now c.requires

pub row_limit_fault-requires : goal.row_limit_fault-requires
row_limit_fault-requires g c = record { limits = within_limits c.args.version.now c.requires }

pub weight_limit_fault-requires-clause-limits : goal.weight_limit_fault-requires-clause-limits
weight_limit_fault-requires-clause-limits g c = within_limits c.args.version.now c.requires

pub first_owner_fault-requires-clause-limits : goal.first_owner_fault-requires-clause-limits
first_owner_fault-requires-clause-limits g c = within_limits c.args.version.now c.requires

pub first_owner_fault-requires-clause-owner : goal.first_owner_fault-requires-clause-owner
first_owner_fault-requires-clause-owner g c = owner_schema c.args.version.now c.requires
