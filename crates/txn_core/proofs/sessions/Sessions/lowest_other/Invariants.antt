use Rattle.std.proofs.Common.{◌≡◌, ◌+◌, ◌-◌}
use Rattle.std.specs.Prelude.{find}
use Rattle.own_model.specs.declared.limit.TheConstants.{SESSIONS}
use Rattle.history_model.specs.Held.{others}
use Rattle.txn_core.specs.SessionStates.{is_open, state_by}
use Rattle.txn_core.proofs.Lowest.{search}
use Rattle.txn_core.proofs.sessions.Sessions.lowest_other.Given as goal

-- the lowest is among the sessions that are left
abbrev pub invariant-loop-number : goal.invariant-loop-number
invariant-loop-number l =
    find (λ other. is_open (state_by l.self other)) (others l.session.0) ≡ search (λ other. is_open (state_by l.self other)) l.session.0 l.number (SESSIONS + 1 - l.number)
