use Rattle.history_model.proofs.OpenTransactions.{net-open, replies-open}
use Rattle.history_model.proofs.laws.open_transaction_depends_on_the_rows_it_holds.Goals as goal

pub returns : goal.returns
returns c = record { replies = replies-open; net = net-open }
