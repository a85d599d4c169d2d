-- What calls leave that sessions make side by side: a history and a text.
use Rattle.std.specs.Prelude.{◌≡◌, ℕ, ◌==◌, Bool, List, filter, map}
use Rattle.std.specs.List.{flat_map}
use Rattle.own_model.specs.declared.history.Entry.{Entry}
use Rattle.own_model.specs.declared.script.ScriptCall.{ScriptCall}
use Rattle.own_model.specs.declared.script.SessionCalls.{SessionCalls}
use Rattle.own_model.specs.Db.{Db}
use Rattle.history_model.specs.History.{History}
use Rattle.history_model.specs.Made.{Called, made}
use Rattle.transcript_model.specs.Printed.{printed}

-- whether an entry is of a session
abbrev pub is_entry_of : ℕ → Entry → Bool
is_entry_of session entry = entry.session.0 == session

-- and whether a call is
abbrev pub is_called_of : ℕ → Called → Bool
is_called_of session called = called.call.session.0 == session

-- the calls of one session
abbrev pub calls_of : SessionCalls → List ScriptCall
calls_of own = map (λ asked. record { session = own.session; call = asked.0; request = asked.1 }) own.calls

-- the calls of sessions, session by session
abbrev pub calls_by_session : List SessionCalls → List ScriptCall
calls_by_session sessions = flat_map calls_of sessions

-- These calls were made over a database by sessions side by side: each session's in their order and each once, but for those that
-- memory kept from being made. What the history has of a session is just what its calls made, and it has nothing else. The text
-- tells the calls one after another, as they stand here.
pub record IsTogether (base : Db) (calls : List ScriptCall) (history : History) (text : List ℕ) : Type 0 where
  -- what refused memory did to each call, and what the disk said of it
  pub called : List Called
  pub calls_are : map (λ called. called.call) called ≡ calls
  pub sessions : (session : ℕ) → filter (is_entry_of session) history ≡ made (filter (is_called_of session) called)
  pub text_is : text ≡ printed base history called
