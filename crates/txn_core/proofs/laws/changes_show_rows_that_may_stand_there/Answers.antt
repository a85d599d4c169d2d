use Rattle.txn_core.proofs.OpenBlocks.{rows_shown}
use Rattle.txn_core.proofs.laws.changes_show_rows_that_may_stand_there.Goals as goal

pub returns : goal.returns
returns c = λ base history session begun block space sound entered opened stands.
    rows_shown base history sound entered session begun block opened space stands
