-- What a run did, by its fault.
use Rattle.std.specs.Prelude.{◌≡◌, ◌≢◌, ℕ, ◌+◌, ◌≤◌, List, [], length, Bool, true, false, Option, None, Some, Ok, Err}
use Rattle.std.specs.Io.KnownBytes.{Appends, Consumes, IsAtEnd}
use Rattle.own_model.specs.declared.limit.TheConstants.{INPUT_BYTES}
use Rattle.own_model.specs.declared.script.InputFault.{InputFault}
use Rattle.own_model.specs.declared.script.InputFault.TheVariants as input
use Rattle.own_model.specs.declared.script.ScriptCall.{ScriptCall}
use Rattle.own_model.specs.Db.{Db}
use Rattle.history_model.specs.History.{History}
use Rattle.script_model.specs.Script.{IsScript}
use Rattle.store_words.specs.declared.words.Mode.{Mode}
use Rattle.store_words.specs.declared.words.Mode.TheVariants.{Step, Serve, Make}
use Rattle.store_top.specs.declared.served.TopFault.{TopFault}
use Rattle.store_top.specs.declared.served.TopFault.TheVariants.{Usage, Read, Write, Disk, Damaged, Input, Memory}
use Rattle.store_top.specs.declared.serving.Telling.{Telling}
use Rattle.store_top.specs.declared.serving.Telling.TheVariants.{Lines, Summary}
use Rattle.history_model.specs.Fails.{TellsFailure}
use Rattle.store_top.specs.Steps.{RunsTo, StopsAtCall, SumsUp, ToldBefore, ToldInPart}

-- the input was read to its end, and has calls
pub record ReadsScript (remaining_old remaining_new : Option (List ℕ)) : Type 0 where
  pub bytes : List ℕ
  pub calls : List ScriptCall
  pub read : Consumes remaining_old remaining_new bytes
  pub ends : IsAtEnd remaining_new
  pub is_script : IsScript bytes (Ok calls)

-- The input was read to its end and a store opened, and of its calls over what that left something is so.
pub record RunsOver (remaining_old remaining_new : Option (List ℕ)) (opened : Option Db) (Did : Db → List ScriptCall → Type 0) : Type 0 where
  pub script : ReadsScript remaining_old remaining_new
  pub base : Db
  pub over : opened ≡ Some base
  pub did : Did base script.calls

-- The same, and a call was answered with a fault of the disk, or none.
abbrev pub RunsWhole : Option (List ℕ) → Option (List ℕ) → Option Db → History → Bool → (Db → List ScriptCall → Type 0) → Type 0
RunsWhole remaining_old remaining_new opened history failed Did =
    RunsOver remaining_old remaining_new opened (λ base calls. Did base calls × TellsFailure failed base history)

-- the bytes that were read have this input fault; they were read to their end, unless they are too many
pub record RefusesInput (remaining_old remaining_new : Option (List ℕ)) (fault : InputFault) : Type 0 where
  pub bytes : List ℕ
  pub read : Consumes remaining_old remaining_new bytes
  pub ends : fault ≢ input.TooLong → IsAtEnd remaining_new
  pub is_script : IsScript bytes (Err fault)

-- at most that many bytes were read
pub record ReadsAtMost (remaining_old remaining_new : Option (List ℕ)) (most : ℕ) : Type 0 where
  pub bytes : List ℕ
  pub read : Consumes remaining_old remaining_new bytes
  pub few : length bytes ≤ most

-- no store was opened, no call made and nothing written
pub record IsUnserved {W : Type 0} (sink_old sink_new : W) (opened : Option Db) (history : History) : Type 0 where
  pub unopened : opened ≡ None
  pub unwritten : sink_new ≡ sink_old
  pub uncalled : history ≡ []

-- What serving calls over a database left, by the fault: without one the whole was told, with a write fault a part, and out of
-- memory what comes before; `rose` is said of the sink's count of faults.
abbrev pub ServedBy : Db → History → Type 0 → Type 0 → Type 0 → Type 0 → Option TopFault → Type 0
ServedBy base history rose whole part before None = whole × TellsFailure false base history
ServedBy base history rose whole part before (Some Disk) = whole × TellsFailure true base history
ServedBy base history rose whole part before (Some Write) = rose × part
ServedBy base history rose whole part before (Some Memory) = before
ServedBy base history rose whole part before (Some Usage) = ⊥
ServedBy base history rose whole part before (Some Read) = ⊥
ServedBy base history rose whole part before (Some (Damaged area offset)) = ⊥
ServedBy base history rose whole part before (Some (Input fault)) = ⊥

-- the calls are told one after another
abbrev pub ServesCalls : Db → List ScriptCall → History → Option (List ℕ) → Option (List ℕ) → Type 0 → Option TopFault → Type 0
ServesCalls base calls history old new rose fault =
    ServedBy base history rose (RunsTo base calls history old new) (StopsAtCall base calls history (ToldInPart old new)) (StopsAtCall base calls history (ToldBefore old new)) fault

-- all of them are made, and summed up at the end
abbrev pub SumsUpCalls : Db → List ScriptCall → History → Option (List ℕ) → Option (List ℕ) → Type 0 → Option TopFault → Type 0
SumsUpCalls base calls history old new rose fault =
    ServedBy base history rose (SumsUp base calls history (Appends old new)) (SumsUp base calls history (ToldInPart old new [])) (SumsUp base calls history (ToldBefore old new [])) fault

-- by what is told of the calls
abbrev pub ServesCallsAs : Telling → Db → List ScriptCall → History → Option (List ℕ) → Option (List ℕ) → Type 0 → Option TopFault → Type 0
ServesCallsAs Lines base calls history old new rose fault = ServesCalls base calls history old new rose fault
ServesCallsAs Summary base calls history old new rose fault = SumsUpCalls base calls history old new rose fault

-- the faults by which no store is opened
abbrev pub IsOfOpening : Option TopFault → Type 0
IsOfOpening (Some Disk) = Unit {0}
IsOfOpening (Some (Damaged area offset)) = Unit {0}
IsOfOpening (Some Memory) = Unit {0}
IsOfOpening None = ⊥
IsOfOpening (Some Usage) = ⊥
IsOfOpening (Some Read) = ⊥
IsOfOpening (Some Write) = ⊥
IsOfOpening (Some (Input fault)) = ⊥

-- what serving calls over a store left, by the database that was opened and the fault; `silent` says that nothing was
-- called or written
abbrev pub ServesScript : Telling → List ScriptCall → Option Db → History → Option (List ℕ) → Option (List ℕ) → Type 0 → Type 0 → Option TopFault → Type 0
ServesScript telling calls (Some base) history old new rose silent fault = ServesCallsAs telling base calls history old new rose fault
ServesScript telling calls None history old new rose silent fault = silent × IsOfOpening fault

-- what serving calls over a store left, where `whole`, `part` and `before` are said of the database that was opened
abbrev pub ServedOver : Option Db → History → Type 0 → Type 0 → (Db → Type 0) → (Db → Type 0) → (Db → Type 0) → Option TopFault → Type 0
ServedOver (Some base) history rose silent whole part before fault = ServedBy base history rose (whole base) (part base) (before base) fault
ServedOver None history rose silent whole part before fault = silent × IsOfOpening fault

-- The calls of an input weren't read: the source failed, in the last call made of it; memory was refused, of what isn't too long
-- for an input; or the bytes that were read have an input fault.
abbrev pub IsUnread : {R : Type 0} → (R → Option (List ℕ)) → (R → ℕ) → Type 0 → R → R → TopFault → Type 0
IsUnread remaining reads failed old new Read = failed × ReadsAtMost (remaining old) (remaining new) INPUT_BYTES
IsUnread remaining reads failed old new Memory = (reads new ≡ reads old) × ReadsAtMost (remaining old) (remaining new) INPUT_BYTES
IsUnread remaining reads failed old new (Input why) =
    (reads new ≡ reads old) × RefusesInput (remaining old) (remaining new) why × (why ≢ input.Memory) × ReadsAtMost (remaining old) (remaining new) (INPUT_BYTES + 1)
IsUnread remaining reads failed old new Usage = ⊥
IsUnread remaining reads failed old new Write = ⊥
IsUnread remaining reads failed old new Disk = ⊥
IsUnread remaining reads failed old new (Damaged area offset) = ⊥

-- the faults that come before any opening
abbrev pub IsBeforeOpening : Option TopFault → Type 0
IsBeforeOpening (Some Usage) = Unit {0}
IsBeforeOpening (Some Read) = Unit {0}
IsBeforeOpening (Some (Input fault)) = Unit {0}
IsBeforeOpening None = ⊥
IsBeforeOpening (Some Write) = ⊥
IsBeforeOpening (Some Memory) = ⊥
IsBeforeOpening (Some Disk) = ⊥
IsBeforeOpening (Some (Damaged area offset)) = ⊥

-- the words are a mode that reads an input
abbrev pub ReadsInput : Option Mode → Type 0
ReadsInput None = ⊥
ReadsInput (Some Step) = Unit {0}
ReadsInput (Some Serve) = Unit {0}
ReadsInput (Some (Make people seed)) = ⊥

-- the faults that words which are no mode may end with
abbrev pub IsUsageOrMemory : Option TopFault → Type 0
IsUsageOrMemory (Some Usage) = Unit {0}
IsUsageOrMemory (Some Memory) = Unit {0}
IsUsageOrMemory _ = ⊥
