use Rattle.std.proofs.Common.{append-nil}
use Rattle.sql_print.proofs.Spaced.{spaced-first, three-pieces}
use Rattle.sql_print.proofs.statement.push_delete.Goals as goal

-- each part goes after those before it
pub returns : goal.returns
returns c = rw (spaced-first, c.in_ok-push_where.ensures, c.in_ok-push_words.ensures, append-nil, c.in_ok-push.ensures, three-pieces)
