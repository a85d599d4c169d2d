-- What serving the calls of an input tells.
use Rattle.std.proofs.Common.{◌≡◌, ℕ, List, true, false, refl}
use Rattle.std.specs.Prelude.{◌≢◌, Bool, Option, None, Some, Result, Ok, Err, IfOk, OnOk}
use Rattle.own_base.specs.declared.number.Area.{Area}
use Rattle.own_model.specs.declared.script.ScriptCall.{ScriptCall}
use Rattle.own_model.specs.Db.{Db}
use Rattle.history_model.specs.History.{History}
use Rattle.script_model.specs.Script.{HasCalls}
use Rattle.script_model.proofs.InputCalls.{calls-few, calls-sessions}
use Rattle.store_top.specs.declared.served.TopFault.{TopFault}
use Rattle.store_top.specs.declared.served.TopFault.TheVariants.{Usage, Read, Write, Disk, Damaged, Input, Memory}
use Rattle.store_top.specs.declared.serving.Telling.TheVariants.{Lines}
use Rattle.session_run.specs.declared.printing.RunFault.{RunFault}
use Rattle.session_run.specs.declared.printing.RunFault.TheVariants as running
use Rattle.store_top.specs.Status.{fault_of}
use Rattle.history_model.specs.Fails.{HasFailed, TellsFailure}
use Rattle.store_top.specs.Steps.{AreOfInput, RunsTo, StopsAtCall, ToldBefore, ToldInPart}
use Rattle.store_top.specs.Top.{IsBeforeOpening, ServedBy, ServedOver, ServesScript}

-- the calls of an input are as few as it may have, and of the sessions
pub input-calls : (bytes : List ℕ) (calls : List ScriptCall) → HasCalls bytes calls → AreOfInput calls
input-calls bytes calls has = record { few = calls-few bytes calls has; sessions = calls-sessions bytes calls has }

-- What serving calls over a database tells of a fault of the disk.
module _ (base : Db) (history : History) (rose whole part before : Type 0) where
  abbrev Serves : Option TopFault → Type 0
  Serves fault = ServedBy base history rose whole part before fault

  pub calls-whole : (fault : Option TopFault) → Serves fault → fault ≡ None → TellsFailure false base history
  calls-whole fault serves is = let by : Serves None = rw is at serves in by.1

  pub calls-failed : (fault : Option TopFault) → Serves fault → fault ≡ Some Disk → HasFailed base history
  calls-failed fault serves is = let by : Serves (Some Disk) = rw is at serves in by.1

  pub calls-later : (fault : Option TopFault) → Serves fault → IsBeforeOpening fault → ⊥
  calls-later None serves early = early
  calls-later (Some Usage) serves early = serves
  calls-later (Some Read) serves early = serves
  calls-later (Some Write) serves early = early
  calls-later (Some Disk) serves early = early
  calls-later (Some (Damaged area offset)) serves early = early
  calls-later (Some (Input fault)) serves early = serves
  calls-later (Some Memory) serves early = early

  pub calls-undamaged : (fault : Option TopFault) (area : Area) (offset : ℕ) → Serves fault → fault ≡ Some (Damaged area offset) → ⊥
  calls-undamaged fault area offset serves is = let by : Serves (Some (Damaged area offset)) = rw is at serves in by

  -- by what the calls came to, and whether one was answered so
  pub calls-served : (served : Result Bool RunFault) → OnOk served whole → IfOk served (λ failed. TellsFailure failed base history) → (served ≡ Err running.Write → rose) → (served ≡ Err running.Write → part)
      → (served ≡ Err running.Memory → before) → Serves (fault_of served)
  calls-served (Ok true) told failed rises parts refuses = (told, failed)
  calls-served (Ok false) told failed rises parts refuses = (told, failed)
  calls-served (Err running.Write) told failed rises parts refuses = (rises refl, parts refl)
  calls-served (Err running.Memory) told failed rises parts refuses = refuses refl

-- calls that were told one after another
pub lines-over : (calls : List ScriptCall) (opened : Option Db) (history : History) (old new : Option (List ℕ)) (rose silent : Type 0) (fault : Option TopFault)
    → ServesScript Lines calls opened history old new rose silent fault
    → ServedOver opened history rose silent (λ base. RunsTo base calls history old new) (λ base. StopsAtCall base calls history (ToldInPart old new)) (λ base. StopsAtCall base calls history (ToldBefore old new)) fault
lines-over calls (Some base) history old new rose silent fault serves = serves
lines-over calls None history old new rose silent fault serves = serves

-- no run ends so that its words are said to be no mode
pub over-lawful : (opened : Option Db) (history : History) (rose silent : Type 0) (whole part before : Db → Type 0) (fault : Option TopFault)
    → ServedOver opened history rose silent whole part before fault → fault ≢ Some Usage
over-lawful (Some base) history rose silent whole part before fault serves is =
    let by : ServedOver (Some base) history rose silent whole part before (Some Usage) = rw is at serves in by
over-lawful None history rose silent whole part before fault serves is =
    let by : ServedOver None history rose silent whole part before (Some Usage) = rw is at serves in by.1
