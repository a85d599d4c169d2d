use Rattle.history_model.proofs.DiskAnswers.{answer-decided, answer-told}
use Rattle.history_model.proofs.laws.disk_decides_no_other_answer.Goals as goal

pub returns : goal.returns
returns c = record { told = answer-told; decided = answer-decided }
