use Rattle.txn_core.proofs.OpenBlocks.{net_block}
use Rattle.txn_core.proofs.laws.net_of_changes_is_that_of_the_block.Goals as goal

pub returns : goal.returns
returns c = λ base history session begun block space changes sound entered opened stands is.
    net_block base history sound entered session begun block opened space stands changes is
