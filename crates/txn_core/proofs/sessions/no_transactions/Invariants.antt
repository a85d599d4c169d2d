use Rattle.std.proofs.Common.{◌≡◌, ℕ, length}
use Rattle.txn_core.specs.declared.session_state.SessionState.TheVariants.{Nothing}
use Rattle.txn_core.specs.SessionStates.{state_by}
use Rattle.txn_core.proofs.sessions.no_transactions.Given as goal

-- so many sessions so far, each outside a transaction
abbrev pub invariant-loop-number : goal.invariant-loop-number
invariant-loop-number l = record { long : length l.states.items ≡ l.number; nothing : (session : ℕ) → state_by l.states.items session ≡ Nothing }
