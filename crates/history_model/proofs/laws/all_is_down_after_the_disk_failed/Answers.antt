use Rattle.history_model.proofs.RefusalLemmas.{down-after}
use Rattle.history_model.proofs.laws.all_is_down_after_the_disk_failed.Goals as goal

pub returns : goal.returns
returns c = down-after
