-- The calls so far, counted by session.
use Rattle.std.specs.Prelude.{◌≡◌, ◌≤◌, ℕ, ◌-◌, Bool, List, [], ◌∷◌, ◌++◌, length, nat_lt, slice_index}
use Rattle.own_base.specs.declared.number.SessionNo.{SessionNo}
use Rattle.own_model.specs.declared.limit.TheConstants.{SESSIONS, STATEMENT_BYTES}
use Rattle.own_model.specs.declared.request.Request.{Request}
use Rattle.own_model.specs.declared.script.ScriptCall.{ScriptCall}
use Rattle.script_model.specs.Asked.{IsAskedWhere}
use Rattle.script_model.specs.Numbered.{Asking, call_after, count_of}

-- how many of the calls each session has
pub record AreCounted (counts : List ℕ) (calls : List ScriptCall) : Type 0 where
  pub long : length counts ≡ SESSIONS
  pub each : (session : ℕ) → 1 ≤ session → session ≤ SESSIONS → slice_index counts (session - 1) ≡ count_of session calls

abbrev pub asking : ℕ → Request → Asking
asking session request = record { session = session; request = request }

abbrev pub asking_of : SessionNo × Request → Asking
asking_of asked = asking asked.0.0 asked.1

-- one of the sessions asks
abbrev pub IsOfOne : SessionNo × Request → Type 0
IsOfOne asked = (1 ≤ asked.0.0) × (asked.0.0 ≤ SESSIONS)

-- the call of a text is put last
pub record AddsText (session : ℕ) (closed : Bool) (text : List ℕ) (before after : List ScriptCall) : Type 0 where
  pub request : Request
  pub asked : IsAskedWhere closed (nat_lt STATEMENT_BYTES (length text)) text request
  pub added : after ≡ before ++ call_after before (asking session request) ∷ []
