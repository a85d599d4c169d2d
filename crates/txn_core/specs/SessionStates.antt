-- The state of a session.
use Rattle.std.specs.Prelude.{◌≡◌, ℕ, List, [], Bool, true, false, Option, None, Some, slice_index_or}
use Rattle.own_base.specs.declared.number.Place.{Place}
use Rattle.own_model.specs.declared.bound.Bound.{Bound}
use Rattle.own_model.specs.declared.bound.Bound.TheVariants.{Select}
use Rattle.own_model.specs.Db.{Db}
use Rattle.history_model.specs.HasWritten.{has_written}
use Rattle.history_model.specs.World.{SessionStanding, Outside, Open, Doomed}
use Rattle.txn_core.specs.declared.session_state.SessionState.{SessionState}
use Rattle.txn_core.specs.declared.session_state.SessionState.TheVariants as state
use Rattle.txn_core.specs.declared.txn.Txn.{Txn}
use Rattle.txn_core.specs.RepresentsBlock.{RepresentsBlock}

-- that of the session of a number; nothing where it was never in a transaction
abbrev pub state_by : List SessionState → ℕ → SessionState
state_by sessions number = slice_index_or sessions number state.Nothing

abbrev pub is_open : SessionState → Bool
is_open state.Nothing = false
is_open (state.Open txn) = true
is_open (state.Doomed place) = false

-- a doom that is still to be told
abbrev pub doom_of : SessionState → Option Place
doom_of state.Nothing = None
doom_of (state.Open txn) = None
doom_of (state.Doomed place) = Some place

-- the state once that is told
abbrev pub told : SessionState → SessionState
told state.Nothing = state.Nothing
told (state.Open txn) = state.Open txn
told (state.Doomed place) = state.Nothing

-- the state of a session whose transaction, if it is in one, is doomed by a FORGET at a place
abbrev pub once_doomed : Place → SessionState → SessionState
once_doomed place state.Nothing = state.Nothing
once_doomed place (state.Open txn) = state.Doomed place
once_doomed place (state.Doomed by) = state.Doomed by

abbrev pub is_select : Bound → Bool
is_select (Select query) = true
is_select bound = false

-- a transaction that has run no write has changed nothing
abbrev pub IsQuiet : Txn → Type 0
IsQuiet txn = txn.wrote ≡ false → txn.space ≡ []

-- The state represents how a session stands on a flat database: nothing outside; in a transaction what it changed, which
-- represents its block, and whether it has run a write; and the place of its doom.
abbrev pub RepresentsSession : Db → SessionState → SessionStanding → Type 0
RepresentsSession flat state.Nothing Outside = Unit {0}
RepresentsSession flat (state.Open txn) (Open begun block) = RepresentsBlock flat block txn.space × IsQuiet txn × (txn.wrote ≡ true → has_written flat.schema block ≡ true)
RepresentsSession flat (state.Doomed place) (Doomed by) = place.0 ≡ by
RepresentsSession flat _ _ = ⊥
