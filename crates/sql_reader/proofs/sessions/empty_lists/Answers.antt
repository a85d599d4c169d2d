use Rattle.std.proofs.Common.{◌∷◌, [], ◌++◌, ◌+◌, sym, ap, ◌∙◌, subst, arith}
use Rattle.sql_reader.proofs.Scripts.Dealing.{EmptyTo, EmptyTo-more, EmptyTo-all}
use Rattle.sql_reader.proofs.sessions.empty_lists.Goals as goal

pub loop-session-preserved : goal.loop-session-preserved
loop-session-preserved c =
    subst (EmptyTo (c.loop-session._session + 1)) (sym (c.in_ok-push.ensures.items ∙ ap (λ l. c.loop-session.lists.items ++ l ∷ []) c.new.ensures)) (EmptyTo-more c.loop-session._session c.loop-session.lists.items (omega arith) c.loop-session.invariant)

pub returns : goal.returns
returns c = EmptyTo-all c.loop-session._session c.loop-session.lists.items (omega arith) c.loop-session.invariant
