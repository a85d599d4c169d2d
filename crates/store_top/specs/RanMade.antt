-- What a run in mode make did.
use Rattle.std.specs.Prelude.{◌≡◌, ◌≢◌, ◌⊎◌, ℕ, List, [], Bool, true, false, Option, None, Some}
use Rattle.std.specs.Io.KnownBytes.{Appends}
use Rattle.own_base.specs.declared.number.Area.{Area}
use Rattle.own_model.specs.declared.script.ScriptCall.{ScriptCall}
use Rattle.own_model.specs.Db.{Db}
use Rattle.history_model.specs.History.{History}
use Rattle.history_model.specs.Serial.{Serial}
use Rattle.made_model.specs.Made.{IsMade}
use Rattle.store_top.specs.declared.served.TopFault.{TopFault}
use Rattle.store_top.specs.declared.served.TopFault.TheVariants.{Write, Disk, Damaged, Memory}
use Rattle.store_top.specs.Ran.{LastFault}
use Rattle.history_model.specs.Fails.{TellsFailure}
use Rattle.store_top.specs.Steps.{SumsUp, ToldBefore, ToldInPart}
use Rattle.store_top.specs.Top.{IsBeforeOpening, IsUnserved}

-- A store was opened, and the calls of a large script were all made over what that left, but for those that memory may keep
-- from being made; and of the text that sums up their replies something is told.
pub record MakesScript (people seed : ℕ) (opened : Option Db) (history : History) (Told : List ℕ → Type 0) : Type 0 where
  pub base : Db
  pub over : opened ≡ Some base
  pub calls : List ScriptCall
  pub made : IsMade people seed calls
  pub sums : SumsUp base calls history Told

-- The same, and the whole text was written. A call was answered with a fault of the disk, or none.
pub record MakesWhole (people seed : ℕ) (opened : Option Db) (history : History) (old new : Option (List ℕ)) (failed : Bool) : Type 0 where
  pub script : MakesScript people seed opened history (Appends old new)
  pub failure : TellsFailure failed script.base history

-- What a run did to its sink, by its fault, by the database that was opened and by the history of the calls that it made.
pub record RanMade {W : Type 0} (written : W → Option (List ℕ)) (writes : W → ℕ) (write_fails : W → W → Type 0) (people seed : ℕ)
    (sink_old sink_new : W) (opened : Option Db) (history : History) (fault : Option TopFault) : Type 0 where
  -- A write fault comes only where the sink's count rose, in the last call made of it; else no call met a fault.
  pub write_fault : fault ≡ Some Write → LastFault writes write_fails sink_old sink_new
  pub write_steady : fault ≢ Some Write → writes sink_new ≡ writes sink_old
  -- Without a fault all calls were made and summed up, and none was answered with a fault of the disk.
  pub whole : fault ≡ None → MakesWhole people seed opened history (written sink_old) (written sink_new) false
  -- With a fault of the disk so they were, and one was answered so; or no store was opened.
  pub disk : fault ≡ Some Disk → IsUnserved sink_old sink_new opened history
      ⊎ MakesWhole people seed opened history (written sink_old) (written sink_new) true
  -- Where writing failed, all calls were made, and a part of the summary is written; out of memory nothing of it, and it may be
  -- that no call was made.
  pub in_part : fault ≡ Some Write → MakesScript people seed opened history (ToldInPart (written sink_old) (written sink_new) [])
  pub memory : fault ≡ Some Memory → IsUnserved sink_old sink_new opened history
      ⊎ MakesScript people seed opened history (ToldBefore (written sink_old) (written sink_new) [])
  -- A damaged store is told.
  pub damaged : (area : Area) (offset : ℕ) → fault ≡ Some (Damaged area offset) → IsUnserved sink_old sink_new opened history
  -- No usage, read or input fault comes; and where no store was opened no call is made, and nothing written.
  pub possible : IsBeforeOpening fault → ⊥
  pub unserved : opened ≡ None → IsUnserved sink_old sink_new opened history
  -- The history has one order, and leaves no bad state at any of its places.
  pub serial : (base : Db) → opened ≡ Some base → Serial base history
