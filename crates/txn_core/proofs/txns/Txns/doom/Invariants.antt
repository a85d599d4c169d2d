use Rattle.txn_core.proofs.Dooming.{AreDoomedBelow}
use Rattle.txn_core.proofs.txns.Txns.doom.Given as goal

-- the FORGET once_doomed the sessions so far
abbrev pub invariant-loop-number : goal.invariant-loop-number
invariant-loop-number l = AreDoomedBelow l.number l.names l.place l.fn.self l.self
