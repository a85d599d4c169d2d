use Rattle.std.proofs.Common.{append-nil}
use Rattle.sql_print.proofs.Spaced.{after_spaces-append, five-pieces, spaced-first}
use Rattle.sql_print.proofs.statement.push_update.Goals as goal

-- each part goes after those before it
pub returns : goal.returns
returns c = rw (spaced-first, after_spaces-append, c.in_ok-push_where.ensures, c.in_ok-push_listed.ensures, c.items.ensures, c.in_ok-push-2.ensures, c.in_ok-push_words.ensures, append-nil, c.in_ok-push.ensures, five-pieces)
