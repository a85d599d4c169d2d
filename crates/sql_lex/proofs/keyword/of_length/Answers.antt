use Rattle.std.proofs.Common.{◌∙◌}
use Rattle.sql_lex.proofs.Keywords.{from_table}
use Rattle.sql_lex.proofs.keyword.of_length.Goals as goal

pub returns : goal.returns
returns c = c.list_at.ensures ∙ from_table c.args.letters
