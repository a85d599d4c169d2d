use Rattle.std.proofs.Common.{append_assoc}
use Rattle.std.proofs.lemmas.List.{take_rest}
use Rattle.sql_print.proofs.Bars.{barred_values}
use Rattle.sql_print.proofs.reply.push_values.Goals as goal

-- the first value, and then the others
pub returns-in_ok-push_more_values-in-len1-up : goal.returns-in_ok-push_more_values-in-len1-up
returns-in_ok-push_more_values-in-len1-up c =
    rw (barred_values c.args.values.now c.first-item.result c.in-len1-up.len_at_least c.first-item.is, c.in_ok-push_more_values-in-len1-up.ensures, take_rest c.args.values.now 1, c.in_ok-push_value-in-len1-up.ensures) (simp append_assoc)
