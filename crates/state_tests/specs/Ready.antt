-- Transactions in which a statement may run.
use Rattle.std.specs.Prelude.{ℕ}
use Rattle.own_model.specs.Db.{Db}
use Rattle.state_model.specs.Sound.{IsWellFormed}
use Rattle.txn_space.specs.Sound.{IsSpaceOf}
use Rattle.txn_core.specs.declared.session_state.SessionState.{SessionState}
use Rattle.txn_core.specs.SessionStates.{state_by}
use Rattle.txn_space.specs.Changed.{changed_db}
use Rattle.txn_core.specs.Transactions.{IsQuietState, Transactions, space_of}

-- what is kept of a session is of this database's tables, and shows rows that may stand in them
pub record IsReady (db : Db) (kept : SessionState) : Type 0 where
  pub space : IsSpaceOf db.schema.tables (space_of kept)
  pub shows : IsWellFormed (changed_db db (space_of kept))
  pub quiet : IsQuietState kept

-- so is what is kept of each session
abbrev pub AreReady : Db → Transactions → Type 0
AreReady db txns = (session : ℕ) → IsReady db (state_by txns.states session)
