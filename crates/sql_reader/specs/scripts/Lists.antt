-- The calls of a script, dealt to the lists of their sessions.
use Rattle.std.specs.Prelude.{ℕ, List, map, filter}
use Rattle.own_model.specs.declared.request.Request.{Request}
use Rattle.own_model.specs.declared.script.ScriptCall.{ScriptCall}
use Rattle.script_model.specs.Numbered.{is_of}
use Rattle.script_model.specs.Session.{sessions}
use Rattle.script_model.specs.Split.{numbered_request}

-- the calls of a session, each with its number
abbrev pub list_of : List ScriptCall → ℕ → List (ℕ × Request)
list_of calls session = map numbered_request (filter (is_of session) calls)

-- those of each session
unfoldable pub lists_of : List ScriptCall → List (List (ℕ × Request))
lists_of calls = map (list_of calls) sessions
