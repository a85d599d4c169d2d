-- A run that nothing outside disturbs is served.
use Rattle.std.proofs.Common.{◌≡◌, ℕ, List, Bool, refl}
use Rattle.std.specs.Prelude.{◌≢◌, Option, None, Some}
use Rattle.own_base.specs.declared.number.Area.{Area}
use Rattle.own_model.specs.declared.script.ScriptCall.{ScriptCall}
use Rattle.own_model.specs.Db.{Db}
use Rattle.outer_world.specs.FaultCount.{CountRose}
use Rattle.history_model.specs.History.{History}
use Rattle.store_top.specs.declared.served.TopFault.{TopFault}
use Rattle.store_top.specs.declared.served.TopFault.TheVariants.{Usage, Read, Write, Disk, Damaged, Input, Memory}
use Rattle.store_top.specs.Complete.{IsLawfulInput, IsServedOrRefused, IsWholeDisk}
use Rattle.store_top.specs.OnDisk.{OnDiskBy}
use Rattle.store_top.specs.Ran.{RanBy}

module _ {R W D : Type 0} (remaining : R → Option (List ℕ)) (reads : R → ℕ) (read_fails : R → R → Type 0) (writes : W → ℕ) (write_fails : W → W → Type 0)
    (holds : D → Area → List ℕ) (leaves : D → Area → List ℕ → Type 0) (moment : D → ℕ) (might : D → ℕ → List ℕ → List ℕ → Type 0) (honest : D → Bool) (faults : D → ℕ)
    (source_old source_new : R) (sink_old sink_new : W) (old new : D) (opened : Option Db) (history : History) (Whole Part Before : Db → List ScriptCall → Type 0) (Served : Db → Type 0)
    (read_none : CountRose (reads source_old) (reads source_new) → ⊥) (write_none : CountRose (writes sink_old) (writes sink_new) → ⊥) (disk_none : CountRose (faults old) (faults new) → ⊥)
    (lawful : IsLawfulInput (remaining source_old) (remaining source_new)) (whole : IsWholeDisk holds honest old) where
  pub complete : (fault : Option TopFault) → fault ≢ Some Usage
      → RanBy remaining reads read_fails writes write_fails source_old source_new sink_old sink_new opened history Whole Part Before fault
      → OnDiskBy holds leaves moment might honest faults old new opened history Served fault → IsServedOrRefused fault
  complete None words ran on = tt
  complete (Some Memory) words ran on = tt
  complete (Some Usage) words ran on = words refl
  complete (Some Read) words ran on = read_none (ran.read_fault refl).rose
  complete (Some Write) words ran on = write_none (ran.write_fault refl).rose
  complete (Some Disk) words ran on = disk_none (on.rose refl)
  complete (Some (Damaged area offset)) words ran on = whole.undamaged area offset (on.damaged area offset refl whole.can).judged
  complete (Some (Input why)) words ran on = lawful why (ran.input_fault why refl)
