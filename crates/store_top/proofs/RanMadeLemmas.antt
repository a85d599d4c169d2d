-- What a run in mode make did, by how it ended.
use Rattle.std.proofs.Common.{◌≡◌, ℕ, List, [], Bool, refl, ap, inl, inr}
use Rattle.std.specs.Prelude.{◌≢◌, Option, None, Some}
use Rattle.own_base.specs.declared.number.Area.{Area}
use Rattle.own_model.specs.declared.script.ScriptCall.{ScriptCall}
use Rattle.own_model.specs.Db.{Db}
use Rattle.outer_world.specs.FaultCount.{CountRose}
use Rattle.history_model.specs.History.{History}
use Rattle.history_model.specs.Serial.{Serial}
use Rattle.made_model.specs.Made.{IsMade}
use Rattle.store_top.specs.declared.served.TopFault.{TopFault}
use Rattle.store_top.specs.declared.served.TopFault.TheVariants.{Usage, Read, Write, Disk, Damaged, Input, Memory}
use Rattle.store_top.specs.declared.serving.Telling.TheVariants.{Summary}
use Rattle.store_top.specs.Complete.{IsServedOrRefused, IsWholeDisk}
use Rattle.store_top.specs.OnDisk.{OnDisk}
use Rattle.store_top.specs.Ran.{LastFault}
use Rattle.store_top.specs.RanMade.{MakesScript, RanMade}
use Rattle.store_top.specs.Steps.{SumsUp}
use Rattle.store_top.specs.Top.{IsBeforeOpening, IsOfOpening, IsUnserved, ServesScript}

-- the faults of an opening come no earlier
not_early : (fault : Option TopFault) → IsOfOpening fault → IsBeforeOpening fault → ⊥
not_early None of early = of
not_early (Some Usage) of early = of
not_early (Some Read) of early = of
not_early (Some Write) of early = of
not_early (Some Disk) of early = early
not_early (Some (Damaged area offset)) of early = early
not_early (Some (Input fault)) of early = of
not_early (Some Memory) of early = early

module _ {W : Type 0} (written : W → Option (List ℕ)) (writes : W → ℕ) (write_fails : W → W → Type 0) (people seed : ℕ) (sink_old sink_new : W) (history : History) where
  abbrev Ran : Option Db → Option TopFault → Type 0
  Ran opened fault = RanMade written writes write_fails people seed sink_old sink_new opened history fault

  abbrev Silent : Type 0
  Silent = (sink_new ≡ sink_old) × (history ≡ [])

  unserved : Silent → IsUnserved sink_old sink_new None history
  unserved none = record { unopened = refl; unwritten = none.0; uncalled = none.1 }

  module _ (calls : List ScriptCall) (made : IsMade people seed calls) where
    abbrev Served : Option Db → Option TopFault → Type 0
    Served opened fault = ServesScript Summary calls opened history (written sink_old) (written sink_new) (LastFault writes write_fails sink_old sink_new) Silent fault

    abbrev script : (base : Db) (Told : List ℕ → Type 0) → SumsUp base calls history Told → MakesScript people seed (Some base) history Told
    script base Told sums = record { base = base; over = refl; calls = calls; made = made; sums = sums }

    not_before : (base : Db) (fault : Option TopFault) → Served (Some base) fault → IsBeforeOpening fault → ⊥
    not_before base None serves early = early
    not_before base (Some Usage) serves early = serves
    not_before base (Some Read) serves early = serves
    not_before base (Some Write) serves early = early
    not_before base (Some Disk) serves early = early
    not_before base (Some (Damaged area offset)) serves early = early
    not_before base (Some (Input fault)) serves early = serves
    not_before base (Some Memory) serves early = early

    -- a store was opened, or none
    pub ran_made-served : (opened : Option Db) (fault : Option TopFault) → Served opened fault → (fault ≢ Some Write → writes sink_new ≡ writes sink_old)
        → ((base : Db) → opened ≡ Some base → Serial base history) → Ran opened fault
    ran_made-served (Some base) fault serves steady serial = record {
      write_fault = λ is. let by : Served (Some base) (Some Write) = rw is at serves in by.0;
      write_steady = steady;
      whole = λ is. let by : Served (Some base) None = rw is at serves in record { script = script base _ by.0; failure = by.1 };
      disk = λ is. let by : Served (Some base) (Some Disk) = rw is at serves in inr (record { script = script base _ by.0; failure = by.1 });
      in_part = λ is. let by : Served (Some base) (Some Write) = rw is at serves in script base _ by.1;
      memory = λ is. let by : Served (Some base) (Some Memory) = rw is at serves in inr (script base _ by);
      damaged = λ area offset is. let by : Served (Some base) (Some (Damaged area offset)) = rw is at serves in absurd by;
      possible = not_before base fault serves;
      unserved = λ none. let never : ⊥ = cc in absurd never;
      serial = serial;
    }
    ran_made-served None fault serves steady serial = record {
      write_fault = λ is. let by : Served None (Some Write) = rw is at serves in absurd by.1;
      write_steady = steady;
      whole = λ is. let by : Served None None = rw is at serves in absurd by.1;
      disk = λ is. inl (unserved serves.0);
      in_part = λ is. let by : Served None (Some Write) = rw is at serves in absurd by.1;
      memory = λ is. inl (unserved serves.0);
      damaged = λ area offset is. unserved serves.0;
      possible = not_early fault serves.1;
      unserved = λ none. unserved serves.0;
      serial = serial;
    }

  -- memory was refused before any opening
  pub ran_made-out_of_memory : (opened : Option Db) → IsUnserved sink_old sink_new opened history → Ran opened (Some Memory)
  ran_made-out_of_memory opened none = record {
    write_fault = λ is. let never : ⊥ = cc in absurd never;
    write_steady = λ other. ap writes none.unwritten;
    whole = λ is. let never : ⊥ = cc in absurd never;
    disk = λ is. let never : ⊥ = cc in absurd never;
    in_part = λ is. let never : ⊥ = cc in absurd never;
    memory = λ is. inl none;
    damaged = λ area offset is. let never : ⊥ = cc in absurd never;
    possible = λ early. early;
    unserved = λ unopened. none;
    serial = λ base over. let none_opened = none.unopened in let never : ⊥ = cc in absurd never;
  }

  -- a run that nothing outside disturbs comes to its end
  module _ {D : Type 0} (holds : D → Area → List ℕ) (leaves : D → Area → List ℕ → Type 0) (moment : D → ℕ) (might : D → ℕ → List ℕ → List ℕ → Type 0) (honest : D → Bool) (faults : D → ℕ) (old new : D) (opened : Option Db)
      (write_none : CountRose (writes sink_old) (writes sink_new) → ⊥) (disk_none : CountRose (faults old) (faults new) → ⊥) (whole : IsWholeDisk holds honest old) where
    pub complete-made : (fault : Option TopFault) → Ran opened fault → OnDisk holds leaves moment might honest faults old new opened history fault → IsServedOrRefused fault
    complete-made None ran on = tt
    complete-made (Some Memory) ran on = tt
    complete-made (Some Usage) ran on = ran.possible tt
    complete-made (Some Read) ran on = ran.possible tt
    complete-made (Some Write) ran on = write_none (ran.write_fault refl).rose
    complete-made (Some Disk) ran on = disk_none (on.rose refl)
    complete-made (Some (Damaged area offset)) ran on = whole.undamaged area offset (on.damaged area offset refl whole.can).judged
    complete-made (Some (Input why)) ran on = ran.possible tt
