use Rattle.history_model.proofs.EveryHistory.{serial-history}
use Rattle.history_model.proofs.laws.every_history_is_serial.Goals as goal

pub returns : goal.returns
returns c = serial-history
