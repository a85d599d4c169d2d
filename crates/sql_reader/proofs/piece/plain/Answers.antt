use Rattle.sql_reader.proofs.Scripts.FrontPieces.{run_front}
use Rattle.sql_reader.proofs.piece.plain.Goals as goal

pub returns : goal.returns
returns c = λ begins byte plain full. run_front begins byte c.args.after.now c.plain_len-run.result c.trimmed_len.result plain full c.plain_len-run.ensures.within c.plain_len-run.ensures.plain c.trimmed_len.ensures.within c.trimmed_len.ensures.spaces c.trimmed_len.ensures.last
