-- What an erasure leaves of the transactions of all sessions.
use Rattle.std.specs.Prelude.{◌≡◌, ◌<◌, ◌≤◌, ◌⊎◌, ℕ, List}
use Rattle.own_base.specs.declared.number.Place.{Place}
use Rattle.own_base.specs.declared.row_name.RowName.{RowName}
use Rattle.own_model.specs.declared.footprint.FootItem.{FootItem}
use Rattle.own_model.specs.declared.limit.TheConstants.{SESSIONS}
use Rattle.history_model.specs.History.{lie_on}
use Rattle.row_locks.specs.RepresentsItems.{AreHeld}
use Rattle.txn_core.specs.Transactions.{IsSameOf, IsDoomedIf, Transactions}

-- Whatever items the sessions held, a session that held one on which a name lies is once_doomed; any other is as it was, and so is
-- a number that is no session's.
pub record HasDoomed (names : List RowName) (place : Place) (before after : Transactions) : Type 0 where
  pub once_doomed : (held : ℕ → List FootItem) → AreHeld before.held held → (session : ℕ) → 1 ≤ session → session ≤ SESSIONS
      → IsDoomedIf (lie_on names (held session)) place session before after
  pub others : (session : ℕ) → (session ≡ 0) ⊎ (SESSIONS < session) → IsSameOf session before after
