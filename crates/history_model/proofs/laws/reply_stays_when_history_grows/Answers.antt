use Rattle.history_model.proofs.HistoryLemmas.{reply-append}
use Rattle.history_model.proofs.laws.reply_stays_when_history_grows.Goals as goal

pub returns : goal.returns
returns c = reply-append
