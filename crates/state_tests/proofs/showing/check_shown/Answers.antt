use Rattle.store_snapshot.proofs.Subjects.{subject-within}
use Rattle.state_tests.proofs.KeptStores.{owner_schema, within_limits}
use Rattle.state_tests.proofs.showing.check_shown.Goals as goal

pub collect_flat-requires-clause-there : goal.collect_flat-requires-clause-there
collect_flat-requires-clause-there g c = subject-within c.args.version.now.schema c.subject_of-subject.result.0.table.0 c.subject_of-subject.ensures

pub collect_flat-requires-clause-limits : goal.collect_flat-requires-clause-limits
collect_flat-requires-clause-limits g c = within_limits c.args.version.now c.requires.well_formed

pub collect_flat-requires-clause-owner : goal.collect_flat-requires-clause-owner
collect_flat-requires-clause-owner g c = owner_schema c.args.version.now c.requires.well_formed
