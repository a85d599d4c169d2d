use Rattle.engine_core.proofs.LookEvents.{may-read}
use Rattle.engine_core.proofs.looking.read.Goals as goal

pub answered-requires : goal.answered-requires
answered-requires c = may-read c.args.version.now c.args.statement.now c.requires.reads c.in_ok-came.came c.in_ok-came.ensures.read
