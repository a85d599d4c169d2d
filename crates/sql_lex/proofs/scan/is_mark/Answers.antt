use Rattle.sql_lex.specs.Tokens.{marks}
use Rattle.sql_lex.proofs.scan.is_mark.Goals as goal

pub returns : goal.returns
unfolding marks
returns c = c.is_among.ensures
