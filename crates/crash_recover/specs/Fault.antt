-- What is found, or why nothing is.
use Rattle.std.specs.Prelude.{ℕ, Result, Ok, Err}
use Rattle.crash_recover.specs.declared.fault.AreaFault.{AreaFault}
use Rattle.crash_recover.specs.declared.fault.AreaFault.TheVariants.{Memory, Damaged}

-- an offset that is damaged; of refused memory nothing is said
abbrev pub IsFault : (ℕ → Type 0) → AreaFault → Type 0
IsFault damaged Memory = Unit {0}
IsFault damaged (Damaged offset) = damaged offset

-- what is found, or an offset that is damaged
abbrev pub Finds : {X : Type 0} → (X → Type 0) → (ℕ → Type 0) → Result X AreaFault → Type 0
Finds found damaged (Ok x) = found x
Finds found damaged (Err fault) = IsFault damaged fault
