-- The text of the calls of a run.
use Rattle.std.specs.Prelude.{ℕ, ◌+◌, List, [], ◌∷◌, Bool, true, false, ◌==◌, ◌&&◌, Option, None, Some, if◌then◌else◌, slice_get, take}
use Rattle.std.specs.List.{flat_map}
use Rattle.std.specs.Option.{option_map_or}
use Rattle.own_model.specs.declared.history.Entry.{Entry}
use Rattle.own_model.specs.declared.refusal.Refusal.TheVariants.{Limit, Memory, NoSubject}
use Rattle.own_model.specs.declared.limit.LimitName.TheVariants as limit
use Rattle.own_model.specs.declared.reply.Reply.{Reply}
use Rattle.own_model.specs.declared.reply.Reply.TheVariants.{Rows, Got, Graph, Refused}
use Rattle.own_model.specs.declared.request.Request.{Request}
use Rattle.own_model.specs.declared.request.Request.TheVariants.{Run}
use Rattle.own_model.specs.declared.script.ScriptCall.{ScriptCall}
use Rattle.own_model.specs.declared.statement.Statement.TheVariants.{Select, GdprGet, Explain}
use Rattle.own_model.specs.Db.{Db}
use Rattle.text_model.specs.Lines.{reply_lines}
use Rattle.history_model.specs.History.{History, reply, standing}
use Rattle.history_model.specs.Made.{Want, Spared, Unshown, Unmade, Called}
use Rattle.history_model.specs.World.{SessionStanding, Outside, Open, Doomed}

-- whether an entry is of this call
abbrev pub is_of : ScriptCall → Entry → Bool
is_of call entry = entry.session.0 == call.session.0 && entry.call == call.call

-- the place that a call has among entries that are numbered from here on
unfoldable pub place_from : ℕ → ScriptCall → History → Option ℕ
place_from place call [] = None
place_from place call (entry ∷ history) = if is_of call entry then Some place else place_from (place + 1) call history

-- the place that a call has in a history
abbrev pub place_of : History → ScriptCall → Option ℕ
place_of history call = place_from 0 call history

-- whether a request only reads: a SELECT, a GDPR GET or an EXPLAIN
abbrev pub is_reading : Request → Bool
is_reading (Run (Select select)) = true
is_reading (Run (GdprGet table key)) = true
is_reading (Run Explain) = true
is_reading request = false

abbrev pub is_outside : SessionStanding → Bool
is_outside Outside = true
is_outside (Open begun block) = false
is_outside (Doomed by) = false

-- whether the call at a place looks at the flat database as it stands: it reads, and its session is in no transaction
unfoldable pub looks : Db → History → ℕ → Bool
looks base history place =
    option_map_or (λ entry. is_reading entry.request && is_outside (standing base (take place history) entry.session.0)) (slice_get history place) false

-- whether a reply is what a look shows, or that there is too much to be shown, or no such subject
abbrev pub is_shown : Reply → Bool
is_shown (Rows rows) = true
is_shown (Got rows) = true
is_shown (Graph lines) = true
is_shown (Refused (Limit limit.Reply)) = true
is_shown (Refused (NoSubject table key)) = true
is_shown reply = false

-- what is told of a reply: `memory` may stand in the place of what a look shows, and of no other reply
abbrev pub told : Bool → Want → Reply → Reply
told looked Spared reply = reply
told looked Unmade reply = reply
told looked Unshown reply = if looked && is_shown reply then Refused Memory else reply

-- the lines of a call that has a place, and of one that has none
abbrev pub lines_at : Db → History → Called → Option ℕ → List ℕ
lines_at base history called None = reply_lines None called.call.session.0 called.call.call (Refused Memory)
lines_at base history called (Some place) =
    option_map_or (λ reply. reply_lines (Some place) called.call.session.0 called.call.call (told (looks base history place) called.want reply)) (reply base history place) []

-- the lines of a call
unfoldable pub lines_of : Db → History → Called → List ℕ
lines_of base history called = lines_at base history called (place_of history called.call)

-- The text of calls, in their order: a call that the history has gives the lines of its reply there; one that it
-- doesn't have gives `memory`, and so may a look, where there was no memory for what it shows.
unfoldable pub printed : Db → History → List Called → List ℕ
printed base history calls = flat_map (lines_of base history) calls
