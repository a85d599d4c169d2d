use Rattle.std.proofs.Common.{◌∙◌, arith}
use Rattle.row_locks.proofs.SessionItems.{items_other, items_own}
use Rattle.row_locks.proofs.sessions.release.Goals as goal

pub returns-then-number-len-clause-nothing : goal.returns-then-number-len-clause-nothing
returns-then-number-len-clause-nothing c = items_own c.args.sessions.now.items c.args.session.0 c.clear.new.self (omega arith) ∙ c.clear.ensures

pub returns-then-number-len-clause-others : goal.returns-then-number-len-clause-others
returns-then-number-len-clause-others c = λ other apart. items_other c.args.sessions.now.items c.args.session.0 other c.clear.new.self apart
