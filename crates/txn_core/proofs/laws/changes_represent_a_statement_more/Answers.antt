use Rattle.txn_core.proofs.OpenBlocks.{represents_more}
use Rattle.txn_core.proofs.laws.changes_represent_a_statement_more.Goals as goal

pub returns : goal.returns
returns c = λ base history session begun block space last bound reply after sound entered opened stands takes is ran.
    represents_more base history sound entered session begun block opened space stands last bound reply after takes is ran
