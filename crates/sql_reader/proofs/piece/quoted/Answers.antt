use Rattle.sql_reader.proofs.Scripts.FrontPieces.{quoted_front, unclosed_front}
use Rattle.sql_reader.proofs.piece.quoted.Goals as goal

pub returns-in-Some : goal.returns-in-Some
returns-in-Some c = λ begins. quoted_front begins c.args.after.now c.in-Some.at c.in-Some.ensures.0 c.in-Some.ensures.1 c.in-Some.ensures.2

pub returns-in-None : goal.returns-in-None
returns-in-None c = λ begins. unclosed_front begins c.args.after.now c.trimmed_len.result c.in-None.ensures c.trimmed_len.ensures.within c.trimmed_len.ensures.spaces c.trimmed_len.ensures.last
