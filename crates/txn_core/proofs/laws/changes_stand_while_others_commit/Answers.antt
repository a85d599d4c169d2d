use Rattle.txn_core.proofs.OpenBlocks.{represents_behind}
use Rattle.txn_core.proofs.laws.changes_stand_while_others_commit.Goals as goal

pub returns : goal.returns
returns c = represents_behind
