use Rattle.state_tests.proofs.KeptStores.{owner_schema, within_limits}
use Rattle.state_tests.proofs.erasing.check_erased.Goals as goal

pub erase_changes-requires-clause-limits : goal.erase_changes-requires-clause-limits
erase_changes-requires-clause-limits g c = within_limits c.args.version.now c.requires.well_formed

pub erase_changes-requires-clause-owner : goal.erase_changes-requires-clause-owner
erase_changes-requires-clause-owner g c = owner_schema c.args.version.now c.requires.well_formed

pub plan_flat-requires-clause-limits : goal.plan_flat-requires-clause-limits
plan_flat-requires-clause-limits g c = within_limits c.args.version.now c.requires.well_formed

pub plan_flat-requires-clause-owner : goal.plan_flat-requires-clause-owner
plan_flat-requires-clause-owner g c = owner_schema c.args.version.now c.requires.well_formed
