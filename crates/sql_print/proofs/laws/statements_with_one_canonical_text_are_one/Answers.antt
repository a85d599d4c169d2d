use Rattle.sql_print.proofs.ReadsBack.{one_of_text}
use Rattle.sql_print.proofs.laws.statements_with_one_canonical_text_are_one.Goals as goal

pub returns : goal.returns
returns c = one_of_text
