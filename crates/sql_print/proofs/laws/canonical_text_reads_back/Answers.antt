use Rattle.sql_print.proofs.ReadsBack.{reads_back}
use Rattle.sql_print.proofs.laws.canonical_text_reads_back.Goals as goal

pub returns : goal.returns
returns c = reads_back
