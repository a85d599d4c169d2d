use Rattle.sql_reader.proofs.Answering.{one_answer}
use Rattle.sql_reader.proofs.laws.text_has_one_answer.Goals as goal

pub returns : goal.returns
returns c = one_answer
