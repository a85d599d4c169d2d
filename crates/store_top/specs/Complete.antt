-- A run that nothing outside disturbs.
use Rattle.std.specs.Prelude.{ℕ, List, Bool, IsTrue, Option, None, Some}
use Rattle.own_base.specs.declared.number.Area.{Area}
use Rattle.own_base.specs.declared.number.Area.TheVariants.{A, B}
use Rattle.own_model.specs.declared.script.InputFault.{InputFault}
use Rattle.disk_model.specs.Judged.{IsJudged}
use Rattle.disk_model.specs.JudgedArea as found
use Rattle.store_top.specs.declared.served.TopFault.{TopFault}
use Rattle.store_top.specs.declared.served.TopFault.TheVariants.{Usage, Read, Write, Disk, Damaged, Input, Memory}
use Rattle.store_top.specs.Top.{RefusesInput}

-- the input has no fault
abbrev pub IsLawfulInput : Option (List ℕ) → Option (List ℕ) → Type 0
IsLawfulInput remaining_old remaining_new = (why : InputFault) → RefusesInput remaining_old remaining_new why → ⊥

-- an honest disk on which nothing is damaged
pub record IsWholeDisk {D : Type 0} (holds : D → Area → List ℕ) (honest : D → Bool) (disk : D) : Type 0 where
  pub can : IsTrue (honest disk)
  pub undamaged : (area : Area) (offset : ℕ) → IsJudged (holds disk A) (holds disk B) (found.Damaged area offset) → ⊥

-- a run came to its end, or memory was refused
abbrev pub IsServedOrRefused : Option TopFault → Type 0
IsServedOrRefused None = Unit {0}
IsServedOrRefused (Some Memory) = Unit {0}
IsServedOrRefused (Some Usage) = ⊥
IsServedOrRefused (Some Read) = ⊥
IsServedOrRefused (Some Write) = ⊥
IsServedOrRefused (Some Disk) = ⊥
IsServedOrRefused (Some (Damaged area offset)) = ⊥
IsServedOrRefused (Some (Input fault)) = ⊥
