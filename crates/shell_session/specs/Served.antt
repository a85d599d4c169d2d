-- What serving calls did.
use Rattle.std.specs.Prelude.{◌≡◌, ◌≢◌, ◌⊎◌, ◌<◌, ℕ, List, [], ◌∷◌, ◌++◌, length, Bool, true, false, not, take, Option, None, Some, Result, Ok, Err}
use Rattle.std.specs.Io.KnownBytes.{Appends, Consumes, IsAtEnd}
use Rattle.own_base.specs.declared.number.Area.{Area}
use Rattle.own_model.specs.declared.script.ScriptCall.{ScriptCall}
use Rattle.script_model.specs.CallText.{CallText}
use Rattle.script_model.specs.Piece.{Piece}
use Rattle.call_stream.specs.Given.{AreFront, HasGiven, HasWholeCalls, IsEndFault, IsFaultMet}
use Rattle.call_stream.specs.Taken.{HasTaken}
use Rattle.call_stream.specs.declared.fault.StreamFault.{StreamFault}
use Rattle.call_stream.specs.declared.fault.StreamFault.TheVariants.{TooLong}
use Rattle.call_stream.specs.declared.stream.CallStream.{CallStream}
use Rattle.call_stream.specs.declared.stream.TheConstants.{HELD_BYTES, STREAM_BYTES}
use Rattle.shell_session.specs.DiskView.{DiskView}
use Rattle.shell_session.specs.Life.{Called, Event, Happen, Happens, Telling, calls_of, text_of, texts_of}
use Rattle.shell_session.specs.OnDisk.{IsEnded, IsNotOpened, IsOpened, OnDisk}
use Rattle.shell_session.specs.Opening.{Opening}
use Rattle.shell_session.specs.Told.{HasWritten}
use Rattle.shell_session.specs.declared.ending.ShellFault.{ShellFault}
use Rattle.shell_session.specs.declared.ending.ShellFault.TheVariants.{Read, Write, Disk, Damaged, Input, Memory, Refused}
use Rattle.shell_session.specs.declared.manner.Form.{Form}

-- the fault of a part of a shell's work, if it met one
abbrev pub fault_of : {T : Type 0} → Result T ShellFault → Option ShellFault
fault_of (Ok done) = None
fault_of (Err why) = Some why

-- the faults that serving calls meets: none of the disk's
abbrev pub IsOfServing : Option ShellFault → Type 0
IsOfServing None = Unit {0}
IsOfServing (Some Disk) = ⊥
IsOfServing (Some (Damaged area offset)) = ⊥
IsOfServing (Some why) = Unit {0}

-- one call was answered, and known bytes grew by the text of that
pub record ServesCall {D T : Type 0} (view : DiskView D) (form : Form) (before after : Opening D) (call : ScriptCall) (line : ℕ) (result : Result T ShellFault) (old new : Option (List ℕ)) : Type 0 where
  pub telling : Telling
  pub of_call : telling.call ≡ call
  pub of_line : telling.line ≡ line
  pub happens : Happens view before (Called telling) after
  pub written : HasWritten result old new (text_of form telling)

-- the last of the events is a call of which so much is written: the text of those before it, and so many first bytes of its own
pub record IsToldInPart (form : Form) (events : List Event) (old new : Option (List ℕ)) : Type 0 where
  pub before : List Event
  pub last : Telling
  pub events_are : events ≡ before ++ Called last ∷ []
  pub count : ℕ
  pub written : Appends old new (texts_of form before ++ take count (text_of form last))

-- or nothing is written of it
pub record IsToldBefore (form : Form) (events : List Event) (old new : Option (List ℕ)) : Type 0 where
  pub before : List Event
  pub last : Telling
  pub events_are : events ≡ before ++ Called last ∷ []
  pub written : Appends old new (texts_of form before)

-- What is written of events, by the fault: the text of each call's reply, in their order. After a fault of the sink a part of the
-- last may be missing, and where memory was refused all of it.
abbrev pub AreTold : Option ShellFault → Form → List Event → Option (List ℕ) → Option (List ℕ) → Type 0
AreTold None form events old new = Appends old new (texts_of form events)
AreTold (Some Read) form events old new = Appends old new (texts_of form events)
AreTold (Some Disk) form events old new = Appends old new (texts_of form events)
AreTold (Some (Damaged area offset)) form events old new = Appends old new (texts_of form events)
AreTold (Some (Input why)) form events old new = Appends old new (texts_of form events)
AreTold (Some Refused) form events old new = Appends old new (texts_of form events)
AreTold (Some Write) form events old new = IsToldInPart form events old new
AreTold (Some Memory) form events old new = Appends old new (texts_of form events) ⊎ IsToldBefore form events old new

-- These calls were made, one after another, and told; with a fault the last of them may not be.
pub record ServesCalls {D : Type 0} (view : DiskView D) (form : Form) (before after : Opening D) (calls : List ScriptCall) (fault : Option ShellFault) (old new : Option (List ℕ)) : Type 0 where
  pub events : List Event
  pub happened : Happen view before events after
  pub told : AreTold fault form events old new
  pub unmade : List ScriptCall
  pub calls_are : calls ≡ calls_of events ++ unmade
  pub whole : fault ≡ None → unmade ≡ []
  pub no_input : (why : StreamFault) → fault ≢ Some (Input why)

-- The calls that a stream gave were made, one after another, and told.
pub record ServesClosed {D : Type 0} (view : DiskView D) (form : Form) (before after : Opening D) (stream_old stream_new : CallStream) (fault : Option ShellFault) (old new : Option (List ℕ)) : Type 0 where
  pub events : List Event
  pub happened : Happen view before events after
  pub told : AreTold fault form events old new
  pub given : (bytes : List ℕ) (texts : List CallText) (calls : List ScriptCall) → HasTaken stream_old bytes texts calls
      → (after : List CallText) × HasTaken stream_new bytes after (calls ++ calls_of events)
  pub met : (why : StreamFault) → fault ≡ Some (Input why) → (bytes : List ℕ) (texts : List CallText) (calls : List ScriptCall) → HasTaken stream_old bytes texts calls
      → IsFaultMet bytes (calls ++ calls_of events) why

-- with these, the calls given are all of the input; or what the input ends with shows a fault, and no call was made
abbrev pub AreLast : List ℕ → List ScriptCall → List ScriptCall → List ScriptCall → Option ShellFault → Type 0
AreLast bytes calls made unmade fault = HasWholeCalls bytes (calls ++ (made ++ unmade)) ⊎ ((made ≡ []) × (fault ≢ None))

-- The calls that the end of an input leaves were made, one after another, and told; with a fault the last of them may not be.
pub record ServesEnd {D : Type 0} (view : DiskView D) (form : Form) (before after : Opening D) (stream : CallStream) (fault : Option ShellFault) (old new : Option (List ℕ)) : Type 0 where
  pub events : List Event
  pub happened : Happen view before events after
  pub told : AreTold fault form events old new
  pub unmade : List ScriptCall
  pub whole : fault ≡ None → unmade ≡ []
  pub given : (bytes : List ℕ) (texts : List CallText) (calls : List ScriptCall) → HasTaken stream bytes texts calls
      → AreLast bytes calls (calls_of events) unmade fault
  pub met : (why : StreamFault) → fault ≡ Some (Input why) → (bytes : List ℕ) (texts : List CallText) (calls : List ScriptCall) → HasTaken stream bytes texts calls
      → IsEndFault bytes (calls ++ calls_of events) why

-- whether bytes that were read may be the last
abbrev pub is_last : {E : Type 0} → Result Bool E → Bool
is_last (Ok more) = not more
is_last (Err why) = false

-- More bytes than a stream takes, or than it holds behind those that it has closed.
abbrev pub AreTooMany : List ℕ → Type 0
AreTooMany bytes = (STREAM_BYTES < length bytes) ⊎ ((front rest : List ℕ) × (pieces : List Piece) × AreFront bytes front rest pieces × (HELD_BYTES < length rest))

-- why the bytes so far give no further call: what closes next has that fault, or they are too many
abbrev pub IsMetSoFar : List ℕ → List ScriptCall → StreamFault → Type 0
IsMetSoFar bytes calls why = IsFaultMet bytes calls why ⊎ ((why ≡ TooLong) × AreTooMany bytes)

-- The next bytes were read; of the calls that they close, each was made and told. Where the stream didn't take the last bytes, that is
-- a fault.
pub record ServesPiece {D : Type 0} (view : DiskView D) (form : Form) (before after : Opening D) (stream_old stream_new : CallStream) (result : Result Bool ShellFault)
    (remaining_old remaining_new written_old written_new : Option (List ℕ)) : Type 0 where
  pub taken : List ℕ
  pub untaken : List ℕ
  pub read : Consumes remaining_old remaining_new (taken ++ untaken)
  pub all_taken : fault_of result ≡ None → untaken ≡ []
  pub end : is_last result ≡ true → IsAtEnd remaining_new
  pub events : List Event
  pub happened : Happen view before events after
  pub told : AreTold (fault_of result) form events written_old written_new
  pub given : (bytes : List ℕ) (texts : List CallText) (calls : List ScriptCall) → HasTaken stream_old bytes texts calls
      → (after : List CallText) × HasTaken stream_new (bytes ++ taken) after (calls ++ calls_of events)
  pub met : (why : StreamFault) → fault_of result ≡ Some (Input why) → (bytes : List ℕ) (texts : List CallText) (calls : List ScriptCall) → HasTaken stream_old bytes texts calls
      → IsMetSoFar (bytes ++ (taken ++ untaken)) (calls ++ calls_of events) why
  pub some : is_last result ≡ false → fault_of result ≡ None → 0 < length taken

-- what nobody is told: no call of the input was made
pub record IsSilent {D : Type 0} (view : DiskView D) (before after : Opening D) : Type 0 where
  pub events : List Event
  pub happened : Happen view before events after
  pub no_calls : calls_of events ≡ []
  pub no_texts : (form : Form) → texts_of form events ≡ []

-- calls are the first of an input: those of the first texts that its bytes close, or the first of all its calls
abbrev pub AreFirst : List ℕ → List ScriptCall → Type 0
AreFirst bytes calls = ((texts : List CallText) × HasGiven bytes texts calls) ⊎ ((unmade : List ScriptCall) × HasWholeCalls bytes (calls ++ unmade))

-- a fault of the input is that of the bytes that were read, behind the calls made: of what closes next, or of what their end shows
abbrev pub IsInputFault : List ℕ → List ScriptCall → StreamFault → Option (List ℕ) → Type 0
IsInputFault bytes calls why remaining = IsMetSoFar bytes calls why ⊎ (IsEndFault bytes calls why × IsAtEnd remaining)

-- Without a fault all calls of the input were made, which was read to its end; with one the first of them.
abbrev pub AreMade : Option ShellFault → List ℕ → List ScriptCall → Option (List ℕ) → Type 0
AreMade None bytes calls remaining = HasWholeCalls bytes calls × IsAtEnd remaining
AreMade (Some why) bytes calls remaining = AreFirst bytes calls

-- What a shell did once the store was opened: which bytes it read, and what happened. The calls of the input were made in their
-- order, each once, and each was answered as the history of its opening replies at its place; and what was written are the texts of
-- these replies.
pub record Lives {D : Type 0} (view : DiskView D) (form : Form) (first : Opening D) (fault : Option ShellFault) (new : D) (remaining_old remaining_new written_old written_new : Option (List ℕ)) : Type 0 where
  pub bytes : List ℕ
  pub read : Consumes remaining_old remaining_new bytes
  pub events : List Event
  pub last : Opening D
  pub happened : Happen view first events last
  pub made : AreMade fault bytes (calls_of events) remaining_new
  pub met : (why : StreamFault) → fault ≡ Some (Input why) → IsInputFault bytes (calls_of events) why remaining_new
  pub told : AreTold fault form events written_old written_new
  pub ended : IsEnded view last fault new

-- A life over what the disk held, and what it did to the disk.
pub record HasLived {D : Type 0} (holds : D → Area → List ℕ) (view : DiskView D) (form : Form) (fault : Option ShellFault) (old new : D)
    (remaining_old remaining_new written_old written_new : Option (List ℕ)) : Type 0 where
  pub first : Opening D
  pub opened : IsOpened holds view old first
  pub lives : Lives view form first fault new remaining_old remaining_new written_old written_new
  pub on_disk : OnDisk holds view old new first lives.events lives.last fault

-- no store was opened, and nothing was read or written
pub record IsUnserved {D R W : Type 0} (holds : D → Area → List ℕ) (view : DiskView D) (fault : Option ShellFault) (old new : D) (source_old source_new : R) (sink_old sink_new : W) : Type 0 where
  pub why : ShellFault
  pub fault_is : fault ≡ Some why
  pub not_opened : IsNotOpened holds view old new why
  pub unread : source_new ≡ source_old
  pub unwritten : sink_new ≡ sink_old
