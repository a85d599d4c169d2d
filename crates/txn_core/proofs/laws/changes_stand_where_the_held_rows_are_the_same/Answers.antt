use Rattle.txn_core.proofs.OpenBlocks.{represents_elsewhere}
use Rattle.txn_core.proofs.laws.changes_stand_where_the_held_rows_are_the_same.Goals as goal

pub returns : goal.returns
returns c = λ base history session begun block space other sound entered opened stands sound_other agree.
    represents_elsewhere base history sound entered session begun block opened space stands other sound_other agree
