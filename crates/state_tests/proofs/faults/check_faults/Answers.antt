use Rattle.state_tests.proofs.KeptStores.{owner_schema, within_limits}
use Rattle.state_tests.proofs.faults.check_faults.Goals as goal

pub first_unique_fault-requires : goal.first_unique_fault-requires
first_unique_fault-requires g c = record { limits = within_limits c.args.version.now c.requires }

pub first_reference_fault-requires-clause-limits : goal.first_reference_fault-requires-clause-limits
first_reference_fault-requires-clause-limits g c = within_limits c.args.version.now c.requires

pub first_reference_fault-requires-clause-owner : goal.first_reference_fault-requires-clause-owner
first_reference_fault-requires-clause-owner g c = owner_schema c.args.version.now c.requires

pub first_fault_flat-requires-clause-limits : goal.first_fault_flat-requires-clause-limits
first_fault_flat-requires-clause-limits g c = within_limits c.args.version.now c.requires

pub first_fault_flat-requires-clause-owner : goal.first_fault_flat-requires-clause-owner
first_fault_flat-requires-clause-owner g c = owner_schema c.args.version.now c.requires
