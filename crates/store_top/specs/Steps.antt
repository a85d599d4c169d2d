-- What serving calls one after another does to a history, a sink and a disk.
use Rattle.std.specs.Prelude.{◌≡◌, ◌≢◌, ℕ, ◌<◌, ◌≤◌, ◌+◌, List, [], ◌∷◌, ◌++◌, length, Bool, Option, take, Result, Ok, Err, IfOk}
use Rattle.std.specs.Io.KnownBytes.{Appends}
use Rattle.std.specs.List.{AllByRecursion}
use Rattle.own_model.specs.declared.history.Verdict.{Verdict}
use Rattle.own_model.specs.declared.limit.TheConstants.{INPUT_CALLS, SESSIONS}
use Rattle.own_model.specs.declared.reply.Reply.{Reply}
use Rattle.own_model.specs.declared.script.ScriptCall.{ScriptCall}
use Rattle.own_model.specs.Db.{Db}
use Rattle.grammar_model.specs.Readable.{IsReadable}
use Rattle.script_model.specs.Split.{IsOfASession}
use Rattle.history_model.specs.History.{History}
use Rattle.history_model.specs.Made.{Want, Unmade, Unshown, added, entry_of, place_by}
use Rattle.history_model.specs.MayBeUnmade.{MayBeUnmade}
use Rattle.made_model.specs.Answered.{AreAnswered, answered_as, counted}
use Rattle.made_model.specs.Summary.{Summary, summary}
use Rattle.made_model.specs.SummaryText.{summary_text}
use Rattle.transcript_model.specs.Transcript.{IsTranscript, text_of_call}
use Rattle.session_run.specs.declared.printing.RunFault.{RunFault}
use Rattle.session_run.specs.declared.printing.RunFault.TheVariants.{Write, Memory}

-- each of these calls asks for what a text or a session's end can give
abbrev pub AreReadable : List ScriptCall → Type 0
AreReadable calls = AllByRecursion (λ call. IsReadable call.request) calls

-- no more calls than an input may have, and an end of each session; and each is of one of the sessions
pub record AreOfInput (calls : List ScriptCall) : Type 0 where
  pub few : length calls ≤ INPUT_CALLS + SESSIONS
  pub sessions : AllByRecursion IsOfASession calls

-- known bytes grew by a text, and by a part of the next call's text, which isn't all of it
abbrev pub ToldInPart : Option (List ℕ) → Option (List ℕ) → List ℕ → List ℕ → Type 0
ToldInPart old new text next = (count : ℕ) × (count < length next) × Appends old new (text ++ take count next)

-- known bytes grew by a text, and by nothing of the next call's
abbrev pub ToldBefore : Option (List ℕ) → Option (List ℕ) → List ℕ → List ℕ → Type 0
ToldBefore old new text next = Appends old new text

-- a call's text is written; after a write fault a part of it; where memory was refused nothing
abbrev pub TellsCall : Result Bool RunFault → Option (List ℕ) → Option (List ℕ) → List ℕ → Type 0
TellsCall (Ok _) old new text = Appends old new text
TellsCall (Err Write) old new text = ToldInPart old new [] text
TellsCall (Err Memory) old new text = ToldBefore old new [] text

-- The history grew by the call's entry, with what the disk said, unless memory kept the call from being made; the place is
-- its own, and the reply what it was answered.
pub record AnswersCall (base : Db) (call : ScriptCall) (before after : History) (place : Option ℕ) (told : Reply) : Type 0 where
  pub want : Want
  pub verdict : Verdict
  pub history_is : after ≡ before ++ added (entry_of call verdict) want
  pub spared : want ≡ Unmade → MayBeUnmade call.request
  pub shown : want ≢ Unshown
  pub stands : place ≡ place_by want (length before)
  pub told_is : answered_as base before (entry_of call verdict) want ≡ told ∷ []

-- The history grew by the call's entry, with what the disk said, unless memory kept the call from being made; and the text,
-- where there is one, is the call's. A call that was made is told just as the history replies to it.
pub record MakesCall {T E : Type 0} (bytes_of : T → List ℕ) (base : Db) (call : ScriptCall) (before after : History) (result : Result T E) : Type 0 where
  pub want : Want
  pub verdict : Verdict
  pub history_is : after ≡ before ++ added (entry_of call verdict) want
  pub spared : want ≡ Unmade → MayBeUnmade (entry_of call verdict).request
  pub shown : want ≢ Unshown
  pub text_is : IfOk result (λ lines. bytes_of lines ≡ text_of_call base before call want verdict)

-- The history grew by the call's entry, with what the disk said, unless memory kept the call from being made; and the sink
-- has what the result says of the call's text.
pub record MakesCallTo (base : Db) (call : ScriptCall) (before after : History) (old new : Option (List ℕ)) (result : Result Bool RunFault) : Type 0 where
  pub want : Want
  pub verdict : Verdict
  pub history_is : after ≡ before ++ added (entry_of call verdict) want
  pub spared : want ≡ Unmade → MayBeUnmade (entry_of call verdict).request
  pub shown : want ≢ Unshown
  pub written : TellsCall result old new (text_of_call base before call want verdict)

-- these calls were made in a run over a database, and known bytes grew by its text
pub record RunsTo (base : Db) (calls : List ScriptCall) (history : History) (old new : Option (List ℕ)) : Type 0 where
  pub text : List ℕ
  pub transcript : IsTranscript base calls history text
  pub written : Appends old new text

-- A run over a database stopped at one of the calls: those before it were made and told, no call after it was made, and
-- its own entry is the last, unless memory kept it from being made. What is told is said of the text of the calls before it
-- and of its own.
pub record StopsAtCall (base : Db) (calls : List ScriptCall) (history : History) (Told : List ℕ → List ℕ → Type 0) : Type 0 where
  pub done : List ScriptCall
  pub last : ScriptCall
  pub rest : List ScriptCall
  pub parts : calls ≡ done ++ last ∷ rest
  -- what the calls before it left
  pub before : History
  pub text : List ℕ
  pub transcript : IsTranscript base done before text
  -- and with it
  pub want : Want
  pub verdict : Verdict
  pub history_is : history ≡ before ++ added (entry_of last verdict) want
  pub spared : want ≡ Unmade → MayBeUnmade (entry_of last verdict).request
  pub made : IsTranscript base (done ++ last ∷ []) history (text ++ text_of_call base before last want verdict)
  pub told : Told text (text_of_call base before last want verdict)

-- The history grew by the call, as above, and the summary of the calls' replies by what it was answered, unless it is an End.
pub record TalliesCall (base : Db) (call : ScriptCall) (before after : History) (old new : Summary) : Type 0 where
  pub want : Want
  pub verdict : Verdict
  pub history_is : after ≡ before ++ added (entry_of call verdict) want
  pub spared : want ≡ Unmade → MayBeUnmade call.request
  pub shown : want ≢ Unshown
  pub adds : (replies : List Reply) → old ≡ summary replies → new ≡ summary (replies ++ counted call.request (answered_as base before (entry_of call verdict) want))

-- these calls were made over a database, and this is the summary of their replies
pub record TalliesCalls (base : Db) (calls : List ScriptCall) (history : History) (tally : Summary) : Type 0 where
  pub replies : List Reply
  pub answered : AreAnswered base calls history replies
  pub tally_is : tally ≡ summary replies

-- These calls were made over a database, and of the text that sums up their replies something is told.
pub record SumsUp (base : Db) (calls : List ScriptCall) (history : History) (Told : List ℕ → Type 0) : Type 0 where
  pub replies : List Reply
  pub answered : AreAnswered base calls history replies
  pub told : Told (summary_text (summary replies))
