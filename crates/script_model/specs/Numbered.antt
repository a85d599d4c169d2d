-- The calls of the sessions, numbered.
use Rattle.std.specs.Prelude.{◌≡◌, ℕ, ◌+◌, ◌==◌, Bool, List, [], ◌∷◌, ◌++◌, length, filter, map}
use Rattle.std.specs.List.{list_any}
use Rattle.own_model.specs.declared.request.Request.{Request}
use Rattle.own_model.specs.declared.request.Request.TheVariants.{End}
use Rattle.own_model.specs.declared.script.ScriptCall.{ScriptCall}
use Rattle.script_model.specs.Session.{sessions}

-- a session, and what it asks for
pub record Asking : Type 0 where
  pub session : ℕ
  pub request : Request

abbrev pub is_of : ℕ → ScriptCall → Bool
is_of session call = call.session.0 == session

-- how many of the calls are the session's
abbrev pub count_of : ℕ → List ScriptCall → ℕ
count_of session calls = length (filter (is_of session) calls)

-- the call after these: its number is one more than that of the calls of its session before it
abbrev pub call_after : List ScriptCall → Asking → ScriptCall
call_after before asking = record { session = record { 0 = asking.session }; call = count_of asking.session before + 1; request = asking.request }

-- the calls after these, each numbered in its session
unfoldable pub numbered_after : List ScriptCall → List Asking → List ScriptCall
numbered_after before [] = []
numbered_after before (asking ∷ askings) = call_after before asking ∷ numbered_after (before ++ call_after before asking ∷ []) askings

-- the session asks for something
abbrev pub has_call : List Asking → ℕ → Bool
has_call askings session = list_any (λ asking. asking.session == session) askings

-- an End for each session that has a call, by session number
abbrev pub ends_of : List Asking → List Asking
ends_of askings = map (λ session. record { session = session; request = End }) (filter (has_call askings) sessions)

-- the calls of an input, numbered in their sessions from 1, and then the Ends, which count too
unfoldable pub calls_of : List Asking → List ScriptCall
calls_of askings = numbered_after [] (askings ++ ends_of askings)

-- each of the calls after these has the number that comes next in its session
abbrev pub AreNumbered : List ScriptCall → List ScriptCall → Type 0
AreNumbered before [] = Unit {0}
AreNumbered before (call ∷ calls) = (call.call ≡ count_of call.session.0 before + 1) × AreNumbered (before ++ call ∷ []) calls
