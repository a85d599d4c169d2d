use Rattle.history_model.proofs.EveryHistory.{held-history}
use Rattle.history_model.proofs.laws.held_rows_stay_while_the_transaction_is_open.Goals as goal

pub returns : goal.returns
returns c = λ base history entry session sound entered is_entry. held-history base history entry sound entered is_entry session
