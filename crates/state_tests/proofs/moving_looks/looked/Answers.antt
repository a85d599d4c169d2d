use Rattle.state_tests.proofs.KeptStores.{owner_schema}
use Rattle.state_tests.proofs.moving_looks.looked.Goals as goal

pub after-both-requires-clause-owner : goal.after-both-requires-clause-owner
after-both-requires-clause-owner g c = owner_schema c.args.version.now c.requires.well_formed
