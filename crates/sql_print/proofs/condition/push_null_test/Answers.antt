use Rattle.std.proofs.Common.{append_assoc}
use Rattle.sql_print.proofs.Spaced.{after_spaces-append}
use Rattle.sql_print.proofs.condition.push_null_test.Goals as goal

pub returns-in_ok-push : goal.returns-in_ok-push
returns-in_ok-push c = rw (c.if-negated.true, after_spaces-append, c.in_ok-push.ensures, c.in_ok-push_words.ensures, append_assoc)
