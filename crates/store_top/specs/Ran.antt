-- What a run did that read an input.
use Rattle.std.specs.Prelude.{◌≡◌, ◌≢◌, ◌⊎◌, ℕ, ◌+◌, List, true, false, Option, None, Some}
use Rattle.outer_world.specs.FaultCount.{CountRose}
use Rattle.outer_world.specs.LastCall.{EndsInFault}
use Rattle.own_base.specs.declared.number.Area.{Area}
use Rattle.own_model.specs.declared.limit.TheConstants.{INPUT_BYTES}
use Rattle.own_model.specs.declared.script.InputFault.{InputFault}
use Rattle.own_model.specs.declared.script.InputFault.TheVariants as input
use Rattle.own_model.specs.Db.{Db}
use Rattle.history_model.specs.History.{History}
use Rattle.history_model.specs.Serial.{Serial}
use Rattle.store_top.specs.declared.served.TopFault.{TopFault}
use Rattle.store_top.specs.declared.served.TopFault.TheVariants.{Read, Write, Disk, Damaged, Input, Memory}
use Rattle.own_model.specs.declared.script.ScriptCall.{ScriptCall}
use Rattle.store_top.specs.Steps.{RunsTo, StopsAtCall, ToldBefore, ToldInPart}
use Rattle.store_top.specs.Top.{IsBeforeOpening, IsUnserved, ReadsAtMost, ReadsScript, RefusesInput, RunsOver, RunsWhole}

-- The fault of a run is that of the last call that it made of a source or a sink: the count of faults rose in it, and in no call
-- before.
pub record LastFault {S : Type 0} (faults : S → ℕ) (fails : S → S → Type 0) (old new : S) : Type 0 where
  pub rose : CountRose (faults old) (faults new)
  pub last : EndsInFault faults fails old new

-- What a run of an input did to its source and its sink, by its fault, by the database that was opened and by the history of the
-- calls that it made. `Whole`, `Part` and `Before` are said of that database and the input's calls. A source and a sink are seen by
-- what is left of the one and written of the other, their counts of faults, and what holds of a call that fails.
pub record RanBy {R W : Type 0} (remaining : R → Option (List ℕ)) (reads : R → ℕ) (read_fails : R → R → Type 0)
    (writes : W → ℕ) (write_fails : W → W → Type 0)
    (source_old source_new : R) (sink_old sink_new : W) (opened : Option Db) (history : History) (Whole Part Before : Db → List ScriptCall → Type 0)
    (fault : Option TopFault) : Type 0 where
  -- A read fault comes only where the source's count rose, in the last call made of it; else no call met a fault.
  pub read_fault : fault ≡ Some Read → LastFault reads read_fails source_old source_new
  pub read_steady : fault ≢ Some Read → reads source_new ≡ reads source_old
  -- and a write fault only where the sink's did
  pub write_fault : fault ≡ Some Write → LastFault writes write_fails sink_old sink_new
  pub write_steady : fault ≢ Some Write → writes sink_new ≡ writes sink_old
  -- An input fault is that of the bytes that were read, and never that memory was refused.
  pub input_fault : (why : InputFault) → fault ≡ Some (Input why) → RefusesInput (remaining source_old) (remaining source_new) why
  pub possible : fault ≢ Some (Input input.Memory)
  -- Without a fault the whole was done over the database that was opened, and no call was answered with a fault of the disk.
  pub whole : fault ≡ None → RunsWhole (remaining source_old) (remaining source_new) opened history false Whole
  -- With a fault of the disk so it was, and a call was answered so; or no store was opened, and the input has calls.
  pub disk : fault ≡ Some Disk → (IsUnserved sink_old sink_new opened history × ReadsScript (remaining source_old) (remaining source_new))
      ⊎ RunsWhole (remaining source_old) (remaining source_new) opened history true Whole
  -- Where writing failed, or memory was refused, a part was. Out of memory comes only where what was read isn't too long for an
  -- input.
  pub in_part : fault ≡ Some Write → RunsOver (remaining source_old) (remaining source_new) opened Part
  pub memory : fault ≡ Some Memory → IsUnserved sink_old sink_new opened history ⊎ RunsOver (remaining source_old) (remaining source_new) opened Before
  pub short : fault ≡ Some Memory → ReadsAtMost (remaining source_old) (remaining source_new) INPUT_BYTES
  -- A damaged store is told of an input that has calls.
  pub damaged : (area : Area) (offset : ℕ) → fault ≡ Some (Damaged area offset)
      → IsUnserved sink_old sink_new opened history × ReadsScript (remaining source_old) (remaining source_new)
  -- Any other fault comes before any opening; and where no store was opened no call is made, and nothing written.
  pub silent : IsBeforeOpening fault → IsUnserved sink_old sink_new opened history
  pub unserved : opened ≡ None → IsUnserved sink_old sink_new opened history
  pub at_most : ReadsAtMost (remaining source_old) (remaining source_new) (INPUT_BYTES + 1)
  -- The history has one order, and leaves no bad state at any of its places.
  pub serial : (base : Db) → opened ≡ Some base → Serial base history

-- What a run in mode step did. Its calls are made and told one after another. Where writing failed, or memory was refused, it
-- stopped at a call: those before it were made and told, none after it was made. A write fault leaves a part of that call's text
-- written, and out of memory nothing of it.
abbrev pub Ran : {R W : Type 0} → (R → Option (List ℕ)) → (R → ℕ) → (R → R → Type 0) → (W → Option (List ℕ)) → (W → ℕ) → (W → W → Type 0)
    → R → R → W → W → Option Db → History → Option TopFault → Type 0
Ran remaining reads read_fails written writes write_fails source_old source_new sink_old sink_new opened history fault =
    RanBy remaining reads read_fails writes write_fails source_old source_new sink_old sink_new opened history
    (λ base calls. RunsTo base calls history (written sink_old) (written sink_new))
    (λ base calls. StopsAtCall base calls history (ToldInPart (written sink_old) (written sink_new)))
    (λ base calls. StopsAtCall base calls history (ToldBefore (written sink_old) (written sink_new))) fault
