-- The calls of a script, session by session.
use Rattle.std.specs.Prelude.{ℕ, ◌≤◌, List, filter, map}
use Rattle.std.specs.List.{list_any}
use Rattle.own_model.specs.declared.limit.TheConstants.{SESSIONS}
use Rattle.own_model.specs.declared.request.Request.{Request}
use Rattle.own_model.specs.declared.script.ScriptCall.{ScriptCall}
use Rattle.own_model.specs.declared.script.SessionCalls.{SessionCalls}
use Rattle.script_model.specs.Numbered.{is_of}
use Rattle.script_model.specs.Session.{sessions}

-- a call's number and what it asks for
abbrev pub numbered_request : ScriptCall → ℕ × Request
numbered_request call = (call.call, call.request)

-- the calls of one session, in their order
abbrev pub calls_in : List ScriptCall → ℕ → SessionCalls
calls_in calls session = record { session = record { 0 = session }; calls = map numbered_request (filter (is_of session) calls) }

-- the calls of each session that has one, by session number
unfoldable pub split : List ScriptCall → List SessionCalls
split calls = map (calls_in calls) (filter (λ session. list_any (is_of session) calls) sessions)

-- a call of one of the sessions
abbrev pub IsOfASession : ScriptCall → Type 0
IsOfASession call = (1 ≤ call.session.0) × (call.session.0 ≤ SESSIONS)
