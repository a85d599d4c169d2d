-- What a stream has taken in and given.
use Rattle.std.specs.Prelude.{◌≡◌, ◌<◌, ◌≤◌, ◌⊎◌, ℕ, ◌+◌, ◌-◌, Option, None, Some, Bool, true, false, List, [], ◌∷◌, ◌++◌, length, take, drop, slice_index, slice_set, nat_lt, if◌then◌else◌}
use Rattle.std.specs.List.{AllByRecursion}
use Rattle.std.specs.Str.{IsUtf8, IsValidUpTo}
use Rattle.own_model.specs.declared.limit.TheConstants.{SESSIONS}
use Rattle.own_model.specs.declared.request.Request.TheVariants.{End}
use Rattle.own_model.specs.declared.script.ScriptCall.{ScriptCall}
use Rattle.grammar_model.specs.Readable.{IsReadable}
use Rattle.script_model.specs.Split.{IsOfASession}
use Rattle.script_model.specs.CallText.{CallText, Part, parts_from}
use Rattle.script_model.specs.Piece.{Piece}
use Rattle.script_model.specs.Script.{parts_of, texts_in}
use Rattle.script_model.specs.Session.{session_of}
use Rattle.script_model.specs.Stretch.{stretches}
use Rattle.sql_reader.specs.scripts.Counts.{AreCounted}
use Rattle.sql_reader.specs.scripts.Fronts.{begins_after}
use Rattle.call_stream.specs.Given.{AreFront, AreCallsOf, HasAllClosed, HasWholeCalls, bad_lines}
use Rattle.call_stream.specs.Scans.{IsScanned}
use Rattle.call_stream.specs.Stretches.{IsCallIn, IsLast, feeds, line_of, session_open}
use Rattle.call_stream.specs.declared.call.StreamCall.{StreamCall}
use Rattle.call_stream.specs.declared.call.StreamEnd.{StreamEnd}
use Rattle.call_stream.specs.declared.fault.StreamFault.{StreamFault}
use Rattle.call_stream.specs.declared.fault.StreamFault.TheVariants as fault
use Rattle.call_stream.specs.declared.scan.Scan.{Scan}
use Rattle.call_stream.specs.declared.stream.CallStream.{CallStream}
use Rattle.call_stream.specs.declared.stream.TheConstants.{STREAM_BYTES, HELD_BYTES}

-- the bytes that came in and belong to no text that is given
abbrev pub pending : CallStream → List ℕ
pending stream = drop stream.from stream.held.items

-- how many calls the session has that calls belong to now
abbrev pub count_now : CallStream → ℕ
count_now stream = slice_index stream.counts (stream.session - 1)

-- what holds of a stream at all times
pub record IsSound (stream : CallStream) : Type 0 where
  pub from_within : stream.from ≤ length stream.held.items
  pub scanned : IsScanned (pending stream) stream.scan
  pub some : 1 ≤ stream.session
  pub within : stream.session ≤ SESSIONS
  pub short : stream.before + length (pending stream) ≤ STREAM_BYTES
  pub few : length (pending stream) ≤ HELD_BYTES
  pub lines_few : stream.lines ≤ stream.before

-- The stream has taken these bytes in, in whatever pieces they came, and has given these calls, of these texts.
pub record HasTaken (stream : CallStream) (bytes : List ℕ) (texts : List CallText) (calls : List ScriptCall) : Type 0 where
  pub front : List ℕ
  pub pieces : List Piece
  pub is_front : AreFront bytes front (pending stream) pieces
  pub valid : IsUtf8 front
  pub before_is : stream.before ≡ length front
  pub lines_are : stream.lines ≡ feeds front
  pub begins_is : stream.scan.begins ≡ begins_after true pieces
  pub parts : List Part
  pub parts_are : (more : List Piece) → parts_of (pieces ++ more) ≡ parts ++ parts_from stream.session stream.before (stretches more)
  pub right : bad_lines parts ≡ []
  pub texts_are : texts ≡ texts_in parts
  pub calls_of_texts : AreCallsOf texts calls
  pub counted : AreCounted stream.counts calls

-- all that came in is gone over, and closes no further call
abbrev pub IsRead : CallStream → Type 0
IsRead stream = stream.scan.at ≡ length (pending stream)

-- the call is that of the text, which begins on that line of the input
pub record IsShown (bytes : List ℕ) (text : CallText) (shown : StreamCall) : Type 0 where
  pub text_is : shown.text ≡ text.bytes
  pub line_is : shown.line ≡ feeds (take text.at bytes) + 1

-- after a call was given, or what has no call was gone over: the stream gives up that many bytes, and calls belong to the
-- session
pub record GivesUp (old new : CallStream) (next session : ℕ) (called : Bool) : Type 0 where
  pub held_is : new.held.items ≡ old.held.items
  pub from_is : new.from ≡ old.from + next
  pub before_is : new.before ≡ old.before + next
  pub lines_are : new.lines ≡ old.lines + feeds (take next (pending old))
  pub session_is : new.session ≡ session
  pub counts_are : new.counts ≡ (if called then slice_set old.counts (old.session - 1) (slice_index old.counts (old.session - 1) + 1) else old.counts)
  pub begins_is : new.scan.begins ≡ false

-- a stretch is passed, and its call is given, if it has one
abbrev pub HasPassed : CallStream → List ℕ → List CallText → List ScriptCall → Option StreamCall → Type 0
HasPassed stream bytes texts calls None = HasTaken stream bytes texts calls
HasPassed stream bytes texts calls (Some shown) =
    (text : CallText) × HasTaken stream bytes (texts ++ text ∷ []) (calls ++ shown.call ∷ []) × IsShown bytes text shown

-- what `next` gives: a call more, of the next text; or none, where the texts so far are all that the bytes close
abbrev pub HasNext : CallStream → List ℕ → List CallText → List ScriptCall → Option StreamCall → Type 0
HasNext stream bytes texts calls None = HasTaken stream bytes texts calls × HasAllClosed bytes texts
HasNext stream bytes texts calls (Some shown) =
    (text : CallText) × HasTaken stream bytes (texts ++ text ∷ []) (calls ++ shown.call ∷ []) × IsShown bytes text shown

-- why a piece isn't taken in
abbrev pub IsPushFault : CallStream → List ℕ → StreamFault → Type 0
IsPushFault stream piece fault.TooLong = (HELD_BYTES < length (pending stream) + length piece) ⊎ (STREAM_BYTES < stream.before + length (pending stream) + length piece)
IsPushFault stream piece fault.Memory = Unit {0}
IsPushFault stream piece _ = ⊥

-- the call that the end of an input leaves, if there is one
abbrev pub open_calls : Option StreamCall → List ScriptCall
open_calls None = []
open_calls (Some shown) = shown.call ∷ []

abbrev pub IsOpenShown : List ℕ → Option StreamCall → Type 0
IsOpenShown bytes None = Unit {0}
IsOpenShown bytes (Some shown) = (text : CallText) × (text.closed ≡ false) × IsShown bytes text shown

-- with these, the calls given are all of the input
pub record HasEnd (bytes : List ℕ) (calls : List ScriptCall) (end : StreamEnd) : Type 0 where
  pub whole : HasWholeCalls bytes (calls ++ (open_calls end.open_call ++ end.ends))
  pub shown : IsOpenShown bytes end.open_call

-- what is read where the input ends
pub record IsLastRead (stream : CallStream) (call : Option StreamCall) : Type 0 where
  pub valid : IsUtf8 (pending stream)
  pub last : Scan
  pub is : IsLast (pending stream) stream.scan last (session_open (pending stream) stream.scan)
  pub named : session_open (pending stream) stream.scan ≡ true → (session : ℕ) × (session_of (line_of (pending stream) stream.scan) ≡ Some session)
  pub call_is : IsCallIn (pending stream) last.start last.end stream.lines stream.session (count_now stream) false call

-- why nothing is
abbrev pub IsLastFault : CallStream → StreamFault → Type 0
IsLastFault stream (fault.NotText byte) = (valid : ℕ) × IsValidUpTo (pending stream) valid × (byte ≡ stream.before + valid)
IsLastFault stream (fault.BadSession byte) =
    IsUtf8 (pending stream) × (session_open (pending stream) stream.scan ≡ true) × (session_of (line_of (pending stream) stream.scan) ≡ None) × (byte ≡ stream.before + stream.scan.piece)
IsLastFault stream (fault.TooManyCalls byte) = count_now stream ≡ 4294967295
IsLastFault stream fault.TooLong = ⊥
IsLastFault stream fault.Memory = Unit {0}

-- why the Ends aren't given
abbrev pub IsEndsFault : List ℕ → StreamFault → Type 0
IsEndsFault counts (fault.TooManyCalls byte) = (session : ℕ) × (1 ≤ session) × (session ≤ SESSIONS) × (slice_index counts (session - 1) ≡ 4294967295)
IsEndsFault counts fault.Memory = Unit {0}
IsEndsFault counts _ = ⊥

-- the End of a session that has had that many calls
abbrev pub ends_at : ℕ → ℕ → List ScriptCall
ends_at session count = if nat_lt 0 count then record { session = record { 0 = session }; call = count + 1; request = End } ∷ [] else []

abbrev pub IsEndFaultAt : ℕ → StreamFault → Type 0
IsEndFaultAt count (fault.TooManyCalls byte) = count ≡ 4294967295
IsEndFaultAt count fault.Memory = Unit {0}
IsEndFaultAt count _ = ⊥

-- the session line at the end, if there is one, names a session
abbrev pub IsNamedLast : CallStream → Type 0
IsNamedLast stream = session_open (pending stream) stream.scan ≡ true → (session : ℕ) × (session_of (line_of (pending stream) stream.scan) ≡ Some session)

-- a call that can be read, of a session
abbrev pub IsPlainCall : ScriptCall → Type 0
IsPlainCall call = IsReadable call.request × IsOfASession call

abbrev pub IsPlain : Option StreamCall → Type 0
IsPlain None = Unit {0}
IsPlain (Some shown) = IsPlainCall shown.call

-- so are all calls that the end of an input leaves
abbrev pub IsPlainEnd : StreamEnd → Type 0
IsPlainEnd end = IsPlain end.open_call × AllByRecursion IsPlainCall end.ends
